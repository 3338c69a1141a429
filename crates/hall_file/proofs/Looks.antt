-- What views show, as the code looks at it.
use Rattle.std.proofs.Common.{◌≡◌, ℕ, suc, ◌+◌, ◌*◌, ◌<◌, ◌≤◌, min, List, [], ◌∷◌, ◌++◌, length, take, drop, ℤ, Some, Option, sym, refl, ap, ◌∙◌, suc-mul, add_comm, arith}
use Rattle.std.specs.List.{flat_map, AllByRecursion}
use Rattle.std.proofs.lemmas.List.{append_assoc, length-append, length-take, take_at, drop_at}
use Rattle.measures.specs.Values.{most_rows}
use Rattle.measures.specs.Bytes.{bytes_of}
use Rattle.measures.specs.Meaning.{Meaning, Formed}
use Rattle.cells.specs.Columns.{Group}
use Rattle.readers.specs.Readers.{number}
use Rattle.readers.proofs.Inverses.{inv_number}
use Rattle.hall_file.specs.declared.shape.ColumnShape.{ColumnShape}
use Rattle.hall_file.specs.Written.{Column, width, group_length, int_bytes, key_bytes, group_bytes, groups_bytes, shape_bytes, columns_bytes}
use Rattle.hall_file.specs.Rules.{GoodGroup, GoodColumn, rows_of}
use Rattle.hall_file.specs.Reading.{shape, group}
use Rattle.hall_file.proofs.Forms.{Lawful, inv_shape, inv_group, narrow_mask}

-- pieces of one length
pub length_joined : {X : Type 0} (f : X → List ℕ) (w : ℕ) (xs : List X) → AllByRecursion (λ x. length (f x) ≡ w) xs → length (flat_map f xs) ≡ length xs * w
length_joined f w [] h = omega arith
length_joined f w (x ∷ xs) h =
    let a = length-append (f x) (flat_map f xs) in
    let b = length_joined f w xs h.1 in
    let c = h.0 in
    let d : suc (length xs) * w ≡ w + length xs * w = suc-mul (length xs) w ∙ add_comm (length xs * w) w in
    omega arith

all_by : {X : Type 0} (P Q : X → Type 0) → ((x : X) → P x → Q x) → (xs : List X) → AllByRecursion P xs → AllByRecursion Q xs
all_by P Q f [] h = tt
all_by P Q f (x ∷ xs) h = (f x h.0, all_by P Q f xs h.1)

-- a key of four places, of which w are written
pub key_length : (w : ℕ) (ks : List ℤ) → length ks ≡ 4 → length (key_bytes w ks) ≡ 4 * min w 4
key_length w ks four =
    let a = length_joined int_bytes 4 (take w ks) (every (take w ks)) in
    let b = length-take w ks in
    let c : min w (length ks) ≡ min w 4 = ap (min w) four in
    omega arith
  where
    every : (ks : List ℤ) → AllByRecursion (λ k. length (int_bytes k) ≡ 4) ks
    every [] = tt
    every (k ∷ ks) = (refl, every ks)

module _ {M V A : Type 0} (meaning : M → Meaning V A) (formed : (m : M) → Formed (meaning m)) (s : ColumnShape M) where
  -- a group, and groups
  pub group_size : (g : Group V) → length g.key ≡ 4 → length (group_bytes meaning s g) ≡ group_length s.mask
  group_size g four =
      let kb = key_bytes (width s) g.key in
      let vb = (meaning s.measure).written g.value in
      let a = length-append kb (bytes_of 4 g.rows ++ vb) in
      let b = key_length (width s) g.key four in
      let c = ((formed s.measure).written_in_eight_bytes g.value).0 in
      omega arith

  pub groups_size : (gs : List (Group V)) → AllByRecursion (λ g. length g.key ≡ 4) gs → length (groups_bytes meaning s gs) ≡ length gs * group_length s.mask
  groups_size gs h = length_joined (group_bytes meaning s) (group_length s.mask) gs (all_by (λ g. length g.key ≡ 4) (λ g. length (group_bytes meaning s g) ≡ group_length s.mask) group_size gs h)

-- no group has more rows than all together
each_within : {V : Type 0} (n : ℕ) (gs : List (Group V)) → rows_of gs ≤ n → AllByRecursion (λ g. g.rows ≤ n) gs
each_within n [] h = tt
each_within n (g ∷ gs) h = (omega arith, each_within n gs (omega arith))

module _ {M V A : Type 0} {meaning : M → Meaning V A} {found : ℕ → Option M} (laws : Lawful meaning found) where
  -- the first of some columns, read where it lies
  pub record FirstRead (fields rows : ℕ) (cs : List (Column M V)) (bs : List ℕ) : Type 0 where
    pub first : Column M V
    pub others : List (Column M V)
    pub is : cs ≡ first ∷ others
    pub r1 : List ℕ
    pub r2 : List ℕ
    pub shaped : shape meaning found fields bs ≡ Some (first.shape, r1)
    pub counted : number 2 r1 ≡ Some (length first.groups, r2)
    pub lies : r2 ≡ groups_bytes meaning first.shape first.groups ++ columns_bytes meaning others
    pub size : length (groups_bytes meaning first.shape first.groups) ≡ length first.groups * group_length first.shape.mask
    pub wide : width first.shape ≤ 4
    pub few : AllByRecursion (λ g. g.rows ≤ most_rows) first.groups
    pub good : GoodColumn meaning fields rows first
    pub others_good : AllByRecursion (GoodColumn meaning fields rows) others

  pub first_read : (fields rows : ℕ) → fields ≤ 8 → rows ≤ most_rows → (cs : List (Column M V)) (bs : List ℕ) → 0 < length cs → AllByRecursion (GoodColumn meaning fields rows) cs → bs ≡ columns_bytes meaning cs → FirstRead fields rows cs bs
  first_read fields rows h k [] bs l ok e = absurd (omega arith)
  first_read fields rows h k (c ∷ cs) bs l ok e =
      let s = c.shape in
      let nb = bytes_of 2 (length c.groups) in
      let gb = groups_bytes meaning s c.groups in
      let more = columns_bytes meaning cs in
      let good = ok.0 in
      let few = good.few in
      let adds = good.adds in
      let whole : bs ≡ shape_bytes meaning s ++ (nb ++ (gb ++ more)) =
      e ∙ append_assoc (shape_bytes meaning s) (nb ++ gb) more ∙ ap (λ l. shape_bytes meaning s ++ l) (append_assoc nb gb more) in
      record {
        first = c;
        others = cs;
        is = refl;
        r1 = nb ++ (gb ++ more);
        r2 = gb ++ more;
        shaped = ap (shape meaning found fields) whole ∙ (inv_shape laws fields h).back s (nb ++ (gb ++ more)) good.shaped;
        counted = (inv_number 2).back (length c.groups) (gb ++ more) (omega arith);
        lies = refl;
        size = groups_size meaning laws.formed s c.groups (all_by (GoodGroup meaning s) (λ g. length g.key ≡ 4) (λ g ok. ok.keyed.0) c.groups good.each);
        wide = narrow_mask fields s.mask good.shaped.mask;
        few = each_within most_rows c.groups (omega arith);
        good = good;
        others_good = ok.1;
      }

  -- where its groups end, the other columns begin
  pub record Cut (gs more : List ℕ) (size : ℕ) (rest : List ℕ) : Type 0 where
    pub within : size ≤ length rest
    pub groups : take size rest ≡ gs
    pub others : drop size rest ≡ more

  pub cut : {fields rows : ℕ} {cs : List (Column M V)} {bs : List ℕ} (r : FirstRead fields rows cs bs) (s : ColumnShape M) (left each size : ℕ) (rest : List ℕ) → s ≡ r.first.shape → left ≡ length r.first.groups → each ≡ group_length s.mask → size ≡ left * each → rest ≡ r.r2 → Cut (groups_bytes meaning r.first.shape r.first.groups) (columns_bytes meaning r.others) size rest
  cut r s left each size rest shaped many sized whole here =
      let gb = groups_bytes meaning r.first.shape r.first.groups in
      let more = columns_bytes meaning r.others in
      let n : length gb ≡ size =
      r.size ∙ ap (λ k. k * group_length r.first.shape.mask) (sym many) ∙ ap (λ k. left * k) (ap (λ x. group_length x.mask) (sym shaped) ∙ sym sized) ∙ sym whole in
      let e : rest ≡ gb ++ more = here ∙ r.lies in
      let l = ap length e ∙ length-append gb more in
      record {
        within = omega arith;
        groups = ap (take size) e ∙ take_at gb more size n;
        others = ap (drop size) e ∙ drop_at gb more size n;
      }

  -- the first of some groups, read where it lies
  pub record NextRead (s : ColumnShape M) (gs : List (Group V)) (bs : List ℕ) : Type 0 where
    pub first : Group V
    pub others : List (Group V)
    pub is : gs ≡ first ∷ others
    pub reads : group meaning s most_rows bs ≡ Some (first, groups_bytes meaning s others)
    pub others_few : AllByRecursion (λ g. g.rows ≤ most_rows) others
    pub others_good : AllByRecursion (GoodGroup meaning s) others

  pub next_read : (s : ColumnShape M) → width s ≤ 4 → (gs : List (Group V)) (bs : List ℕ) → 0 < length gs → AllByRecursion (λ g. g.rows ≤ most_rows) gs → AllByRecursion (GoodGroup meaning s) gs → bs ≡ groups_bytes meaning s gs → NextRead s gs bs
  next_read s w [] bs l few ok e = absurd (omega arith)
  next_read s w (x ∷ gs) bs l few ok e =
      record {
        first = x;
        others = gs;
        is = refl;
        reads = ap (group meaning s most_rows) e ∙ (inv_group laws s w most_rows (omega arith)).back x (groups_bytes meaning s gs) (ok.0, few.0);
        others_few = few.1;
        others_good = ok.1;
      }

-- what was read, and the bytes after it
pub some_pair : {X : Type 0} (x y : X) (l m : List ℕ) → ◌≡◌ {A = Option (X × List ℕ)} (Some (x, l)) (Some (y, m)) → (x ≡ y) × (l ≡ m)
some_pair {X} x y l m e = let z : ◌≡◌ {A = X × List ℕ} (x, l) (y, m) = cc in (ap (λ (u : X × List ℕ). u.0) z, ap (λ (u : X × List ℕ). u.1) z)
