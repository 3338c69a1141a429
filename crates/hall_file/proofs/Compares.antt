-- Shapes one after another against a list of shapes.
use Rattle.std.proofs.Common.{◌≡◌, ℕ, ◌+◌, ◌<◌, false, List, ◌∷◌, map, length, get_or, drop, Decides, sym, ap, ◌∙◌, arith}
use Rattle.std.proofs.lemmas.List.{drop_more}
use Rattle.measures.specs.Meaning.{Meaning}
use Rattle.hall_file.specs.declared.shape.ColumnShape.{ColumnShape}
use Rattle.hall_file.specs.declared.view.Columns.{Columns}
use Rattle.hall_file.specs.Written.{Column}
use Rattle.hall_file.specs.Views.{ShowsColumns}

-- the shapes of columns
abbrev pub shapes_of : {M V : Type 0} → List (Column M V) → List (ColumnShape M)
shapes_of cs = map (λ c. c.shape) cs

module _ {M V A : Type 0} (meaning : M → Meaning V A) where
  -- the columns left have the shapes left just where all columns have all shapes
  pub record Left (cs : List (Column M V)) (shapes : List (ColumnShape M)) (v : Columns) (i : ℕ) : Type 0 where
    pub left : List (Column M V)
    pub shows : ShowsColumns meaning left v
    pub then : shapes_of cs ≡ shapes → shapes_of left ≡ drop i shapes
    pub back : shapes_of left ≡ drop i shapes → shapes_of cs ≡ shapes

  -- the next shapes differ
  pub unlike : {cs : List (Column M V)} {shapes : List (ColumnShape M)} {v : Columns} {i : ℕ} (l : Left cs shapes v i) (c : Column M V) (more : List (Column M V)) → l.left ≡ c ∷ more → (s : ColumnShape M) → i < length shapes → (c.shape ≡ get_or shapes i s → ⊥) → Decides false (shapes_of cs ≡ shapes)
  unlike {cs} {shapes} {v} {i} l c more is s h other = (
    λ e. absurd (let z : ◌≡◌ {A = ℕ} 0 1 = cc in omega arith),
    λ e. absurd (other (let z : c.shape ∷ shapes_of more ≡ get_or shapes i s ∷ drop (i + 1) shapes = sym (ap shapes_of is) ∙ l.then e ∙ drop_more shapes i s h in cc)),
  )

  -- the next shapes are the same
  pub left_more : {cs : List (Column M V)} {shapes : List (ColumnShape M)} {v : Columns} {i : ℕ} (l : Left cs shapes v i) (c : Column M V) (more : List (Column M V)) → l.left ≡ c ∷ more → (s : ColumnShape M) → i < length shapes → c.shape ≡ get_or shapes i s → (w : Columns) → ShowsColumns meaning more w → Left cs shapes w (i + 1)
  left_more {cs} {shapes} {v} {i} l c more is s h same w sh =
      record {
        left = more;
        shows = sh;
        then = λ e. let z : c.shape ∷ shapes_of more ≡ get_or shapes i s ∷ drop (i + 1) shapes = sym (ap shapes_of is) ∙ l.then e ∙ drop_more shapes i s h in cc;
        back = λ e. l.back (ap shapes_of is ∙ ap (λ x. x ∷ shapes_of more) same ∙ ap (λ x. get_or shapes i s ∷ x) e ∙ sym (drop_more shapes i s h));
      }
