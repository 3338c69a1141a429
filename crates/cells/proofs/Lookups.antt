-- A sorted list is known by its look-ups, and putting changes one of them. Assumes nothing.
use Rattle.std.proofs.Common.{◌≡◌, List, [], ◌∷◌, is_some, true≢false, Some, None, Option, Ordering, Less, Equal, Greater, sym, refl, ap, ◌∙◌, subst}
use Rattle.std.specs.List.{AllByRecursion}
use Rattle.std.proofs.ByRecursion.{All-weaker}
use Rattle.cells.specs.declared.id.GroupId.{GroupId}
use Rattle.cells.specs.declared.cell.Cell.{Cell}
use Rattle.cells.specs.Order.{order}
use Rattle.cells.specs.Listed.{among}
use Rattle.cells.specs.Groups.{Sorted, put, grown, lookup, added}
use Rattle.cells.proofs.Ordered.{same, itself, trans, greater_less}

pub never : {X A : Type 0} {x : A} → None ≡ Some x → X
never e = absurd (true≢false (sym (ap is_some e)))

module _ {V : Type 0} where
  pub look_head : (p : GroupId) (c : Cell V) (cs : List (Cell V)) (r : Ordering) → order p c.id ≡ r → lookup p (c ∷ cs) ≡ among r None (Some c) (lookup p cs)
  look_head p c cs r e = ap (λ o. among o None (Some c) (lookup p cs)) e

  pub look_before : (p : GroupId) (cs : List (Cell V)) → AllByRecursion (λ d. order p d.id ≡ Less) cs → lookup p cs ≡ None
  look_before p [] h = refl
  look_before p (c ∷ cs) h = look_head p c cs Less h.0

module _ {V : Type 0} (f : V → V → V) (x : Cell V) where
  pub put_head : (c : Cell V) (cs : List (Cell V)) (r : Ordering) → order x.id c.id ≡ r → put f x (c ∷ cs) ≡ among r (x ∷ c ∷ cs) (grown f x c ∷ cs) (c ∷ put f x cs)
  put_head c cs r e = ap (λ o. among o (x ∷ c ∷ cs) (grown f x c ∷ cs) (c ∷ put f x cs)) e

  pub lookup_put_same : (cs : List (Cell V)) → lookup x.id (put f x cs) ≡ Some (added f x (lookup x.id cs))
  lookup_put_same [] = look_head x.id x [] Equal (itself x.id)
  lookup_put_same (c ∷ cs) = at (order x.id c.id) refl (lookup_put_same cs) where
    at : (r : Ordering) → order x.id c.id ≡ r → lookup x.id (put f x cs) ≡ Some (added f x (lookup x.id cs)) → lookup x.id (put f x (c ∷ cs)) ≡ Some (added f x (lookup x.id (c ∷ cs)))
    at Less e t = ap (lookup x.id) (put_head c cs Less e) ∙ look_head x.id x (c ∷ cs) Equal (itself x.id) ∙ ap (λ o. Some (added f x o)) (sym (look_head x.id c cs Less e))
    at Equal e t = ap (lookup x.id) (put_head c cs Equal e) ∙ look_head x.id (grown f x c) cs Equal e ∙ ap (λ o. Some (added f x o)) (sym (look_head x.id c cs Equal e))
    at Greater e t = ap (lookup x.id) (put_head c cs Greater e) ∙ look_head x.id c (put f x cs) Greater e ∙ t ∙ ap (λ o. Some (added f x o)) (sym (look_head x.id c cs Greater e))

  -- a new cell of another place does not matter
  past_fresh : (p : GroupId) (l : List (Cell V)) → (p ≡ x.id → ⊥) → (order p x.id ≡ Less → lookup p l ≡ None) → lookup p (x ∷ l) ≡ lookup p l
  past_fresh p l ne none = at (order p x.id) refl where
    at : (r : Ordering) → order p x.id ≡ r → lookup p (x ∷ l) ≡ lookup p l
    at Less e = look_head p x l Less e ∙ sym (none e)
    at Equal e = absurd (ne (same p x.id e))
    at Greater e = look_head p x l Greater e

  pub lookup_put_other : (p : GroupId) → (p ≡ x.id → ⊥) → (cs : List (Cell V)) → lookup p (put f x cs) ≡ lookup p cs
  lookup_put_other p ne [] = past_fresh p [] ne (λ _. refl)
  lookup_put_other p ne (c ∷ cs) = at (order x.id c.id) refl (lookup_put_other p ne cs) where
    grow : (r : Ordering) → order p c.id ≡ r → order x.id c.id ≡ Equal → lookup p (grown f x c ∷ cs) ≡ lookup p (c ∷ cs)
    grow Less h e = look_head p (grown f x c) cs Less h ∙ sym (look_head p c cs Less h)
    grow Equal h e = absurd (ne (same p c.id h ∙ sym (same x.id c.id e)))
    grow Greater h e = look_head p (grown f x c) cs Greater h ∙ sym (look_head p c cs Greater h)

    at : (r : Ordering) → order x.id c.id ≡ r → lookup p (put f x cs) ≡ lookup p cs → lookup p (put f x (c ∷ cs)) ≡ lookup p (c ∷ cs)
    at Less e t = ap (lookup p) (put_head c cs Less e) ∙ past_fresh p (c ∷ cs) ne (λ h. look_head p c cs Less (trans p x.id c.id h e))
    at Equal e t = ap (lookup p) (put_head c cs Equal e) ∙ grow (order p c.id) refl e
    at Greater e t = ap (lookup p) (put_head c cs Greater e) ∙ ap (λ o. among (order p c.id) None (Some c) o) t

  -- what holds of the new cell, and of each old one by its place
  pub all_put : (P : GroupId → Type 0) → P x.id → (cs : List (Cell V)) → AllByRecursion (λ c. P c.id) cs → AllByRecursion (λ c. P c.id) (put f x cs)
  all_put P new [] h = (new, tt)
  all_put P new (c ∷ cs) h = subst (AllByRecursion (λ c. P c.id)) (sym (put_head c cs (order x.id c.id) refl)) (at (order x.id c.id) (all_put P new cs h.1)) where
    at : (r : Ordering) → AllByRecursion (λ c. P c.id) (put f x cs) → AllByRecursion (λ c. P c.id) (among r (x ∷ c ∷ cs) (grown f x c ∷ cs) (c ∷ put f x cs))
    at Less t = (new, h)
    at Equal t = h
    at Greater t = (h.0, t)

  pub sorted_put : (cs : List (Cell V)) → Sorted cs → Sorted (put f x cs)
  sorted_put [] s = (tt, tt)
  sorted_put (c ∷ cs) s = subst Sorted (sym (put_head c cs (order x.id c.id) refl)) (at (order x.id c.id) refl (sorted_put cs s.1)) where
    at : (r : Ordering) → order x.id c.id ≡ r → Sorted (put f x cs) → Sorted (among r (x ∷ c ∷ cs) (grown f x c ∷ cs) (c ∷ put f x cs))
    at Less e t = ((e, All-weaker _ _ (λ d h. trans x.id c.id d.id e h) cs s.0), s)
    at Equal e t = s
    at Greater e t = (all_put (λ p. order c.id p ≡ Less) (greater_less x.id c.id e) cs s.0, t)

module _ {V : Type 0} where
  -- the tails of two lists with one head place
  tails : (c d : Cell V) (cs ds : List (Cell V)) → c.id ≡ d.id → Sorted (c ∷ cs) → Sorted (d ∷ ds) → ((p : GroupId) → lookup p (c ∷ cs) ≡ lookup p (d ∷ ds)) → (p : GroupId) → lookup p cs ≡ lookup p ds
  tails c d cs ds e s t h p = at (order p c.id) refl where
    none : (x : Cell V) (xs : List (Cell V)) → Sorted (x ∷ xs) → x.id ≡ c.id → order p c.id ≡ Equal → lookup p xs ≡ None
    none x xs u g f = look_before p xs (All-weaker _ _ (λ y k. ap (λ z. order z y.id) (same p c.id f ∙ sym g) ∙ k) xs u.0)

    less : (x : Cell V) (xs : List (Cell V)) → Sorted (x ∷ xs) → order p x.id ≡ Less → lookup p xs ≡ None
    less x xs u f = look_before p xs (All-weaker _ _ (λ y k. trans p x.id y.id f k) xs u.0)

    at : (r : Ordering) → order p c.id ≡ r → lookup p cs ≡ lookup p ds
    at Less f = less c cs s f ∙ sym (less d ds t (ap (order p) (sym e) ∙ f))
    at Equal f = none c cs s refl f ∙ sym (none d ds t (sym e) f)
    at Greater f = sym (look_head p c cs Greater f) ∙ h p ∙ look_head p d ds Greater (ap (order p) (sym e) ∙ f)

  heads : (c d : Cell V) (cs ds : List (Cell V)) → c.id ≡ d.id → lookup c.id (c ∷ cs) ≡ lookup c.id (d ∷ ds) → c ≡ d
  heads c d cs ds e h =
      let both : ◌≡◌ {A = Option (Cell V)} (Some c) (Some d) = sym (look_head c.id c cs Equal (itself c.id)) ∙ h ∙ look_head c.id d ds Equal (ap (order c.id) (sym e) ∙ itself c.id) in
      cc

  pub sorted_ext : (cs ds : List (Cell V)) → Sorted cs → Sorted ds → ((p : GroupId) → lookup p cs ≡ lookup p ds) → cs ≡ ds
  sorted_ext [] [] s t h = refl
  sorted_ext [] (d ∷ ds) s t h = never (h d.id ∙ look_head d.id d ds Equal (itself d.id))
  sorted_ext (c ∷ cs) [] s t h = never (sym (h c.id) ∙ look_head c.id c cs Equal (itself c.id))
  sorted_ext (c ∷ cs) (d ∷ ds) s t h = at (order c.id d.id) refl (λ e. sorted_ext cs ds s.1 t.1 (tails c d cs ds e s t h)) where
    at : (r : Ordering) → order c.id d.id ≡ r → (c.id ≡ d.id → cs ≡ ds) → c ∷ cs ≡ d ∷ ds
    at Less e rest = never (sym (look_head c.id d ds Less e) ∙ sym (h c.id) ∙ look_head c.id c cs Equal (itself c.id))
    at Equal e rest =
        let g = same c.id d.id e in
        let hd = heads c d cs ds g (h c.id) in
        let tl = rest g in
        cc
    at Greater e rest = never (sym (look_head d.id c cs Less (greater_less c.id d.id e)) ∙ h d.id ∙ look_head d.id d ds Equal (itself d.id))
