-- From the parts to the whole file.
use Rattle.std.proofs.Common.{◌≡◌, ℕ, ◌-◌, ◌≤◌, List, ◌++◌, length, take, Some, None, Option, sym, refl, ap, ◌∙◌, arith}
use Rattle.std.proofs.lemmas.List.{length-append, take_at}
use Rattle.measures.specs.Meaning.{Meaning}
use Rattle.readers.specs.Readers.{changed, go_on, after}
use Rattle.readers.proofs.Inverses.{none_some}
use Rattle.hall_file.specs.declared.head.Head.{Head}
use Rattle.hall_file.specs.Written.{Column, Content, file_bytes, columns_bytes}
use Rattle.hall_file.specs.Rules.{Good}
use Rattle.hall_file.specs.Reading.{head, columns, file}
use Rattle.hall_file.proofs.Forms.{Lawful, GoodHead, inv_head, inv_columns, inv_file}

module _ {M V A : Type 0} {meaning : M → Meaning V A} {found : ℕ → Option M} (laws : Lawful meaning found) (bs : List ℕ) where
  -- where the reader of files gives nothing, no file begins
  no_file : None ≡ after (file meaning found bs) → (f : Content M V) (rest : List ℕ) → Good meaning f → bs ≡ file_bytes meaning f ++ rest → ⊥
  no_file e f rest ok w = none_some rest (e ∙ ap after (ap (file meaning found) w ∙ (inv_file laws).back f rest ok))

  abbrev content : Head × List (Column M V) → Content M V
  content q = record { fields = q.0.fields; rows = q.0.rows; columns = q.1 }

  -- no head
  pub no_head : None ≡ head bs → (f : Content M V) (rest : List ℕ) → Good meaning f → bs ≡ file_bytes meaning f ++ rest → ⊥
  unfolding file
  no_head e = no_file (ap (λ o. after (changed content (go_on o (columns meaning found)))) e)

  module _ (h : Head) (body : List ℕ) (here : Some (h, body) ≡ head bs) where
    good_head : GoodHead h
    good_head = (inv_head.only bs (h, body) (sym here)).0

    file_is : changed content (changed (λ y. (h, y)) (columns meaning found h body)) ≡ file meaning found bs
    unfolding file
    file_is = ap (λ o. changed content (go_on o (columns meaning found))) here

    -- a head, but not its columns
    pub no_columns : None ≡ after (columns meaning found h body) → (f : Content M V) (rest : List ℕ) → Good meaning f → bs ≡ file_bytes meaning f ++ rest → ⊥
    no_columns e = go (columns meaning found h body) refl e
      where
        go : (o : Option (List (Column M V) × List ℕ)) → columns meaning found h body ≡ o → None ≡ after o → (f : Content M V) (rest : List ℕ) → Good meaning f → bs ≡ file_bytes meaning f ++ rest → ⊥
        go None p q = no_file (ap after (sym (ap (λ o. changed content (changed (λ y. (h, y)) o)) p) ∙ file_is))
        go (Some x) p q = none_some x.1 q

    -- a head and its columns
    pub record Parts (rest : List ℕ) : Type 0 where
      pub holds : Content M V
      pub good : Good meaning holds
      pub written : bs ≡ file_bytes meaning holds ++ rest
      pub fields : h.fields ≡ holds.fields
      pub columns : h.columns ≡ length holds.columns
      pub rows : h.rows ≡ holds.rows
      pub body_is : body ≡ columns_bytes meaning holds.columns ++ rest

    pub parts : (rest : List ℕ) → Some rest ≡ after (columns meaning found h body) → Parts rest
    parts rest e = go (columns meaning found h body) refl e
      where
        go : (o : Option (List (Column M V) × List ℕ)) → columns meaning found h body ≡ o → Some rest ≡ after o → Parts rest
        go None p q = none_some rest (sym q)
        go (Some x) p q =
            let z : rest ≡ x.1 = cc in
            let f : Content M V = content (h, x.0) in
            let reads : file meaning found bs ≡ Some (f, x.1) = sym file_is ∙ ap (λ o. changed content (changed (λ y. (h, y)) o)) p in
            let whole = (inv_file laws).only bs (f, x.1) reads in
            let cols = (inv_columns laws h good_head).only body x p in
            record {
              holds = f;
              good = whole.0;
              written = whole.1 ∙ ap (λ l. file_bytes meaning f ++ l) (sym z);
              fields = refl;
              columns = sym cols.0.0;
              rows = refl;
              body_is = cols.1 ∙ ap (λ l. columns_bytes meaning x.0 ++ l) (sym z);
            }

-- the front of a list that ends in another
pub front : (xs ys zs : List ℕ) → zs ≡ xs ++ ys → take (length zs - length ys) zs ≡ xs
front xs ys zs e =
    let l = ap length e ∙ length-append xs ys in
    let n : length xs ≡ length zs - length ys = omega arith in
    ap (take (length zs - length ys)) e ∙ take_at xs ys (length zs - length ys) n

pub no_longer : (xs ys zs : List ℕ) → zs ≡ xs ++ ys → length ys ≤ length zs
no_longer xs ys zs e = let l = ap length e ∙ length-append xs ys in omega arith
