-- Cells that lie in any order, as groups in order: what one more, or one grown, gives. Assumes nothing.
use Rattle.std.proofs.Common.{◌≡◌, ℕ, zero, suc, ◌+◌, ◌<◌, ◌≤◌, ◌≢◌, ◌⊎◌, List, [], ◌∷◌, ◌++◌, length, get_or, set, Some, None, Ordering, Less, Equal, Greater, sym, refl, ap, ◌∙◌, subst, inl, inr, arith}
use Rattle.std.proofs.lemmas.List.{length-set, length_push, get_or_push, get_or_append_left, get_or-set_same, get_or-set_other}
use Rattle.std.proofs.lemmas.Bool.{cases_lt, cases_eq}
use Rattle.cells.specs.declared.id.GroupId.{GroupId}
use Rattle.cells.specs.declared.cell.Cell.{Cell}
use Rattle.cells.specs.Order.{order}
use Rattle.cells.specs.Groups.{Sorted, put, grown, lookup, added, in_order, Apart, Absent}
use Rattle.cells.proofs.Ordered.{same, itself, no_less, no_greater}
use Rattle.cells.proofs.Lookups.{sorted_ext, sorted_put, lookup_put_same, lookup_put_other}

module _ {V : Type 0} where
  pub sorted_in_order : (cs : List (Cell V)) → Sorted (in_order cs)
  sorted_in_order [] = tt
  sorted_in_order (c ∷ cs) = sorted_put (λ new old. new) c (in_order cs) (sorted_in_order cs)

  pub apart_tail : (c : Cell V) (cs : List (Cell V)) → Apart (c ∷ cs) → Apart cs
  apart_tail c cs a i j d h l e = a (suc i) (suc j) d (omega arith) (omega arith) e

  pub apart_head : (c : Cell V) (cs : List (Cell V)) → Apart (c ∷ cs) → Absent c.id cs
  apart_head c cs a k d h e = a 0 (suc k) d (omega arith) (omega arith) (sym e)

  -- a group is that of some cell, or of none
  pub which : (p : GroupId) (cs : List (Cell V)) → ((i : ℕ) × (i < length cs) × ((d : Cell V) → (get_or cs i d).id ≡ p)) ⊎ Absent p cs
  which p [] = inr (λ k d h e. absurd (omega arith))
  which p (c ∷ cs) = at (order p c.id) refl (which p cs) where
    on : (order p c.id ≡ Equal → ⊥) → ((i : ℕ) × (i < length cs) × ((d : Cell V) → (get_or cs i d).id ≡ p)) ⊎ Absent p cs → ((i : ℕ) × (i < length (c ∷ cs)) × ((d : Cell V) → (get_or (c ∷ cs) i d).id ≡ p)) ⊎ Absent p (c ∷ cs)
    on ne (inl (i, l, e)) = inl (suc i, omega arith, e)
    on ne (inr a) = inr none where
      none : Absent p (c ∷ cs)
      none zero d h e = ne (ap (order p) e ∙ itself p)
      none (suc k) d h e = a k d (omega arith) e

    at : (r : Ordering) → order p c.id ≡ r → ((i : ℕ) × (i < length cs) × ((d : Cell V) → (get_or cs i d).id ≡ p)) ⊎ Absent p cs → ((i : ℕ) × (i < length (c ∷ cs)) × ((d : Cell V) → (get_or (c ∷ cs) i d).id ≡ p)) ⊎ Absent p (c ∷ cs)
    at Less e t = on (λ h. no_less (sym e ∙ h)) t
    at Equal e t = inl (0, omega arith, λ d. sym (same p c.id e))
    at Greater e t = on (λ h. no_greater (sym e ∙ h)) t

  pub in_order_none : (p : GroupId) (cs : List (Cell V)) → Absent p cs → lookup p (in_order cs) ≡ None
  in_order_none p [] a = refl
  in_order_none p (c ∷ cs) a = lookup_put_other (λ new old. new) c p (λ e. a 0 c (omega arith) (sym e)) (in_order cs) ∙ in_order_none p cs (λ k d h e. a (suc k) d (omega arith) e)

  pub in_order_at : (cs : List (Cell V)) → Apart cs → (i : ℕ) (d : Cell V) → i < length cs → lookup (get_or cs i d).id (in_order cs) ≡ Some (get_or cs i d)
  in_order_at [] a i d h = absurd (omega arith)
  in_order_at (c ∷ cs) a zero d h =
      lookup_put_same (λ new old. new) c (in_order cs) ∙ ap (λ o. Some (added (λ new old. new) c o)) (in_order_none c.id cs (λ k e l q. a 0 (suc k) e (omega arith) (omega arith) (sym q)))
  in_order_at (c ∷ cs) a (suc i) d h =
      lookup_put_other (λ new old. new) c (get_or cs i d).id (λ e. a 0 (suc i) d (omega arith) h (sym e)) (in_order cs) ∙ in_order_at cs (apart_tail c cs a) i d (omega arith)

  -- groups are known by what they have of each cell, and that they have no other
  pub in_order_is : (cs l : List (Cell V)) → Apart cs → Sorted l → ((i : ℕ) (d : Cell V) → i < length cs → lookup (get_or cs i d).id l ≡ Some (get_or cs i d)) → ((p : GroupId) → Absent p cs → lookup p l ≡ None) → in_order cs ≡ l
  in_order_is cs l a s have none = sorted_ext (in_order cs) l (sorted_in_order cs) s (λ p. at p (which p cs)) where
    at : (p : GroupId) → ((i : ℕ) × (i < length cs) × ((d : Cell V) → (get_or cs i d).id ≡ p)) ⊎ Absent p cs → lookup p (in_order cs) ≡ lookup p l
    at p (inl (i, h, e)) = some cs h e a have where
      some : (ds : List (Cell V)) → i < length ds → ((d : Cell V) → (get_or ds i d).id ≡ p) → Apart ds → ((i : ℕ) (d : Cell V) → i < length ds → lookup (get_or ds i d).id l ≡ Some (get_or ds i d)) → lookup p (in_order ds) ≡ lookup p l
      some [] h e a have = absurd (omega arith)
      some (c ∷ ds) h e a have = ap (λ q. lookup q (in_order (c ∷ ds))) (sym (e c)) ∙ in_order_at (c ∷ ds) a i c h ∙ sym (have i c h) ∙ ap (λ q. lookup q l) (e c)
    at p (inr out) = in_order_none p cs out ∙ sym (none p out)

-- one more cell
module _ {V : Type 0} (f : V → V → V) (x : Cell V) (cs : List (Cell V)) (a : Apart cs) (new : Absent x.id cs) where
  abbrev n : ℕ
  n = length cs

  long : length (cs ++ x ∷ []) ≡ length cs + 1
  long = length_push cs x

  last : (k : ℕ) (d : Cell V) → k ≡ n → get_or (cs ++ x ∷ []) k d ≡ x
  last k d e = get_or_push cs x d k (sym e)

  front : (k : ℕ) (d : Cell V) → k < n → get_or (cs ++ x ∷ []) k d ≡ get_or cs k d
  front k d h = get_or_append_left cs (x ∷ []) d k h

  pub apart_push : Apart (cs ++ x ∷ [])
  apart_push i j d h l e = at (cases_lt j n) where
    at : (j < n) ⊎ (n ≤ j) → ⊥
    at (inl lt) = a i j d h lt (ap (λ c. c.id) (sym (front i d (omega (arith, long)))) ∙ e ∙ ap (λ c. c.id) (front j d lt))
    at (inr ge) = new i d (omega (arith, long)) (ap (λ c. c.id) (sym (front i d (omega (arith, long)))) ∙ e ∙ ap (λ c. c.id) (last j d (omega (arith, long))))

  pub in_order_push : in_order (cs ++ x ∷ []) ≡ put f x (in_order cs)
  in_order_push = in_order_is (cs ++ x ∷ []) (put f x (in_order cs)) apart_push (sorted_put f x (in_order cs) (sorted_in_order cs)) have none where
    have : (i : ℕ) (d : Cell V) → i < length (cs ++ x ∷ []) → lookup (get_or (cs ++ x ∷ []) i d).id (put f x (in_order cs)) ≡ Some (get_or (cs ++ x ∷ []) i d)
    have i d h = at (cases_lt i n) where
      at : (i < n) ⊎ (n ≤ i) → lookup (get_or (cs ++ x ∷ []) i d).id (put f x (in_order cs)) ≡ Some (get_or (cs ++ x ∷ []) i d)
      at (inl lt) = subst (λ (c : Cell V). lookup c.id (put f x (in_order cs)) ≡ Some c) (sym (front i d lt)) (lookup_put_other f x (get_or cs i d).id (new i d lt) (in_order cs) ∙ in_order_at cs a i d lt)
      at (inr ge) = subst (λ (c : Cell V). lookup c.id (put f x (in_order cs)) ≡ Some c) (sym (last i d (omega (arith, long)))) (lookup_put_same f x (in_order cs) ∙ ap (λ o. Some (added f x o)) (in_order_none x.id cs new))

    none : (p : GroupId) → Absent p (cs ++ x ∷ []) → lookup p (put f x (in_order cs)) ≡ None
    none p out =
        lookup_put_other f x p (λ e. out n x (omega (arith, long)) (ap (λ c. c.id) (last n x refl) ∙ sym e)) (in_order cs)
        ∙ in_order_none p cs (λ k d h e. out k d (omega (arith, long)) (ap (λ c. c.id) (front k d h) ∙ e))

-- one cell grown
module _ {V : Type 0} (f : V → V → V) (x : Cell V) (cs : List (Cell V)) (a : Apart cs) (i : ℕ) (within : i < length cs) (c : Cell V) (is : (d : Cell V) → get_or cs i d ≡ c) (here : c.id ≡ x.id) where
  abbrev new : Cell V
  new = grown f x c

  wide : length (set cs i new) ≡ length cs
  wide = length-set cs i new

  there : (d : Cell V) → get_or (set cs i new) i d ≡ new
  there d = get_or-set_same cs i new d within

  pub place_set : (k : ℕ) (d : Cell V) → (get_or (set cs i new) k d).id ≡ (get_or cs k d).id
  place_set k d = at (cases_eq k i) where
    at : (k ≡ i) ⊎ (k ≢ i) → (get_or (set cs i new) k d).id ≡ (get_or cs k d).id
    at (inl e) = ap (λ j. (get_or (set cs i new) j d).id) e ∙ ap (λ c. c.id) (there d) ∙ ap (λ c. c.id) (sym (is d)) ∙ ap (λ j. (get_or cs j d).id) (sym e)
    at (inr ne) = ap (λ c. c.id) (get_or-set_other cs i k new d ne)

  pub apart_set : Apart (set cs i new)
  apart_set j k d h l e = a j k d h (omega (arith, wide)) (sym (place_set j d) ∙ e ∙ place_set k d)

  -- another cell is of another place
  other : (k : ℕ) (d : Cell V) → k < length cs → k ≢ i → (get_or cs k d).id ≡ x.id → ⊥
  other k d h ne e = at (cases_lt k i) where
    both : (get_or cs k d).id ≡ (get_or cs i d).id
    both = e ∙ sym here ∙ ap (λ c. c.id) (sym (is d))

    at : (k < i) ⊎ (i ≤ k) → ⊥
    at (inl lt) = a k i d lt within both
    at (inr ge) = a i k d (omega (arith, ne)) h (sym both)

  pub in_order_set : in_order (set cs i new) ≡ put f x (in_order cs)
  in_order_set = in_order_is (set cs i new) (put f x (in_order cs)) apart_set (sorted_put f x (in_order cs) (sorted_in_order cs)) have none where
    grew : lookup x.id (put f x (in_order cs)) ≡ Some new
    grew = lookup_put_same f x (in_order cs) ∙ ap (λ o. Some (added f x o)) (ap (λ p. lookup p (in_order cs)) (sym here) ∙ subst (λ (b : Cell V). lookup b.id (in_order cs) ≡ Some b) (is x) (in_order_at cs a i x within))

    have : (k : ℕ) (d : Cell V) → k < length (set cs i new) → lookup (get_or (set cs i new) k d).id (put f x (in_order cs)) ≡ Some (get_or (set cs i new) k d)
    have k d h = at (cases_eq k i) where
      at : (k ≡ i) ⊎ (k ≢ i) → lookup (get_or (set cs i new) k d).id (put f x (in_order cs)) ≡ Some (get_or (set cs i new) k d)
      at (inl e) = subst (λ (b : Cell V). lookup b.id (put f x (in_order cs)) ≡ Some b) (sym (there d) ∙ ap (λ j. get_or (set cs i new) j d) (sym e)) (ap (λ p. lookup p (put f x (in_order cs))) here ∙ grew)
      at (inr ne) = subst (λ (b : Cell V). lookup b.id (put f x (in_order cs)) ≡ Some b) (sym (get_or-set_other cs i k new d ne)) (lookup_put_other f x (get_or cs k d).id (other k d (omega (arith, wide)) ne) (in_order cs) ∙ in_order_at cs a k d (omega (arith, wide)))

    none : (p : GroupId) → Absent p (set cs i new) → lookup p (put f x (in_order cs)) ≡ None
    none p out =
        lookup_put_other f x p (λ e. out i x (omega (arith, wide)) (place_set i x ∙ ap (λ c. c.id) (is x) ∙ here ∙ sym e)) (in_order cs)
        ∙ in_order_none p cs (λ k d h e. out k d (omega (arith, wide)) (place_set k d ∙ e))
