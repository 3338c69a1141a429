-- The five kinds answer the plain aggregates. Assumes nothing.
use Rattle.std.proofs.Common.{◌≡◌, ℕ, zero, suc, ◌*◌, ◌≤◌, true, false, cond, ◌⊎◌, List, [], ◌∷◌, ◌++◌, length, ℤ, pos, ◌+ℤ◌, nat_abs, ◌≤ℤ◌, Some, None, fold, Option, sym, refl, ap, ◌∙◌, subst, inl, inr, ⊎_elim, append_assoc, append-nil, arith, length-append}
use lib.Signed.{lt_z}
use borrow.Author.Differences.{ints}
use Rattle.std.proofs.lemmas.Bool.{eqb-true, leb-true, and_parts}
use Rattle.std.proofs.lemmas.Bool.Decides.{nat_tests}
use Rattle.std.proofs.lemmas.Int.{clamps}
use Rattle.std.specs.Int.{int_min, int_max}
use Rattle.std.specs.List.{ContainsAt as Has, AllByRecursion}
use Rattle.measures.specs.declared.answer.Answer.{Answer}
use Rattle.measures.specs.declared.answer.Answer.TheVariants.{Number, NoRows}
use Rattle.any_measure.specs.declared.any.AnyMeasure.{AnyMeasure}
use Rattle.any_measure.specs.declared.any.AnyMeasure.TheVariants.{Count as Counts, Sum as Sums, Least as Leasts, Greatest as Greatests, Mean as Means}
use Rattle.any_measure.specs.declared.any.AnyValue.TheVariants.{Rows, Total, Extreme}
use Rattle.measures.specs.Values.{RowValue, greatest_value, most_rows}
use Rattle.measures.specs.Meaning.{Meaning}
use Rattle.measures.specs.Kinds.{count, counted, sum, mean, mean_of, total, adding, extreme, least, greatest, better, extreme_answer}
use Rattle.any_measure.specs.Lifted.{lifted}
use Rattle.any_measure.specs.Chosen.{chosen, rows_in, total_in, extreme_in}
use Rattle.any_measure.specs.Plain.{sum_of, least_of, greatest_of, plain, are_measured_rows, IsLeast, IsGreatest}
use Rattle.any_measure.specs.Groupings.{Grouping, nothing, row, both, values, joined, AnswersPlainly, FiveKinds}
use Rattle.measures.proofs.Rows.{all_row_values_true}
use Rattle.measures.specs.Laws.{counted_adds, total_adds}

-- the two parts of a grouping that is in bounds are in bounds
parts_all : (P : ℤ → Type 0) (xs ys : List ℤ) → AllByRecursion P (xs ++ ys) → AllByRecursion P xs × AllByRecursion P ys
parts_all P [] ys h = (tt, h)
parts_all P (x ∷ xs) ys h = let (a, b) = parts_all P xs ys h.1 in ((h.0, a), b)

-- counting

counts : (g : Grouping) → length (values g) ≤ most_rows → joined count g ≡ length (values g)
counts nothing h = refl
counts (row v) h = refl
counts (both g h) small =
    let n = length-append (values g) (values h) in
    let eg = counts g (omega arith) in
    let eh = counts h (omega arith) in
    ap (λ x. counted x (joined count h)) eg ∙ ap (counted (length (values g))) eh ∙ counted_adds (length (values g)) (length (values h)) (omega arith) ∙ sym n

-- adding up

sum_of_append : (xs ys : List ℤ) → sum_of (xs ++ ys) ≡ sum_of xs +ℤ sum_of ys
sum_of_append [] ys = omega (arith, ints)
sum_of_append (x ∷ xs) ys = omega (arith, ints, sum_of_append xs ys)

sum_of_bound : (vs : List ℤ) → AllByRecursion RowValue vs → nat_abs (sum_of vs) ≤ greatest_value * length vs
sum_of_bound [] h = omega arith
sum_of_bound (v ∷ vs) h = omega (arith, ints, h.0, sum_of_bound vs h.1)

adds : (k : ℕ) (answer : ℤ → ℕ → Answer) (g : Grouping) → AllByRecursion RowValue (values g) → length (values g) ≤ most_rows → joined (adding k answer) g ≡ sum_of (values g)
adds k answer nothing all h = refl
adds k answer (row v) all h = omega (arith, ints)
adds k answer (both g h) all small =
    let n = length-append (values g) (values h) in
    let (ag, ah) = parts_all RowValue (values g) (values h) all in
    let eg = adds k answer g ag (omega arith) in
    let eh = adds k answer h ah (omega arith) in
    let s = sum_of_append (values g) (values h) in
    let bound = sum_of_bound (values g ++ values h) all in
    let near : nat_abs (sum_of (values g) +ℤ sum_of (values h)) ≤ 999999999000000 = subst (λ z. nat_abs z ≤ 999999999000000) s (omega arith) in
    ap (λ x. total x (joined (adding k answer) h)) eg ∙ ap (total (sum_of (values g))) eh ∙ total_adds (sum_of (values g)) (sum_of (values h)) near ∙ sym s

-- the least and the greatest

module _ (pick : ℤ → ℤ → ℤ) (associates : (a b c : ℤ) → pick (pick a b) c ≡ pick a (pick b c)) where
  -- the extreme of a list, where it has one
  extreme_of : List ℤ → Option ℤ
  extreme_of [] = None
  extreme_of (v ∷ vs) = Some (fold pick v vs)

  picks_first : (v w : ℤ) (ws : List ℤ) → pick v (fold pick w ws) ≡ fold pick (pick v w) ws
  picks_first v w [] = refl
  picks_first v w (x ∷ xs) = picks_first v (pick w x) xs ∙ ap (λ y. fold pick y xs) (sym (associates v w x))

  picks_append : (v w : ℤ) (vs ws : List ℤ) → pick (fold pick v vs) (fold pick w ws) ≡ fold pick v (vs ++ w ∷ ws)
  picks_append v w [] ws = picks_first v w ws
  picks_append v w (x ∷ xs) ws = picks_append (pick v x) w xs ws

  better_append : (xs ys : List ℤ) → better pick (extreme_of xs) (extreme_of ys) ≡ extreme_of (xs ++ ys)
  unfolding extreme_of
  better_append [] ys = refl
  better_append (x ∷ xs) [] = ap (λ vs. Some (fold pick x vs)) (sym (append-nil xs))
  better_append (x ∷ xs) (y ∷ ys) = ap Some (picks_append x y xs ys)

  picks : (k : ℕ) (g : Grouping) → joined (extreme k pick) g ≡ extreme_of (values g)
  unfolding extreme_of
  picks k nothing = refl
  picks k (row v) = refl
  picks k (both g h) = ap (λ x. better pick x (joined (extreme k pick) h)) (picks k g) ∙ ap (better pick (extreme_of (values g))) (picks k h) ∙ better_append (values g) (values h)

-- what is smaller, or larger, of two numbers is one of them
module _ (pick : ℤ → ℤ → ℤ) (R : ℤ → ℤ → Type 0) (is_one : (a b : ℤ) → (pick a b ≡ a) ⊎ (pick a b ≡ b)) (left : (a b : ℤ) → R (pick a b) a) (right : (a b : ℤ) → R (pick a b) b)
    (through : (a b c : ℤ) → R a b → R b c → R a c) where
  picked_is_there : (v : ℤ) (vs : List ℤ) → Has (v ∷ vs) (fold pick v vs)
  picked_is_there v [] = (0, omega arith, λ d. refl)
  picked_is_there v (w ∷ ws) = at (is_one v w) (picked_is_there (pick v w) ws) where
    at : (pick v w ≡ v) ⊎ (pick v w ≡ w) → Has (pick v w ∷ ws) (fold pick (pick v w) ws) → Has (v ∷ w ∷ ws) (fold pick (pick v w) ws)
    at (inl e) (zero, h, p) = (0, omega arith, λ d. sym e ∙ p d)
    at (inr e) (zero, h, p) = (1, omega arith, λ d. sym e ∙ p d)
    at e (suc k, h, p) = (suc (suc k), omega arith, λ d. p d)

  picked_before_first : (v : ℤ) (vs : List ℤ) → R (fold pick v vs) v
  picked_before_first v [] = subst (λ x. R x v) (⊎_elim (λ e. e) (λ e. e) (is_one v v)) (left v v)
  picked_before_first v (w ∷ ws) = through _ _ _ (picked_before_first (pick v w) ws) (left v w)

  picked_before_all : (v : ℤ) (vs : List ℤ) → AllByRecursion (λ w. R (fold pick v vs) w) (v ∷ vs)
  picked_before_all v vs = (picked_before_first v vs, rest v vs) where
    rest : (v : ℤ) (vs : List ℤ) → AllByRecursion (λ w. R (fold pick v vs) w) vs
    rest v [] = tt
    rest v (w ∷ ws) = (through _ _ _ (picked_before_first (pick v w) ws) (right v w), rest (pick v w) ws)

one_of_min : (a b : ℤ) → (int_min a b ≡ a) ⊎ (int_min a b ≡ b)
one_of_min a b = elim (lt_z b a) as (λ t. (cond t b a ≡ a) ⊎ (cond t b a ≡ b)) [ true ↦ inr refl | false ↦ inl refl ]

one_of_max : (a b : ℤ) → (int_max a b ≡ a) ⊎ (int_max a b ≡ b)
one_of_max a b = elim (lt_z b a) as (λ t. (cond t a b ≡ a) ⊎ (cond t a b ≡ b)) [ true ↦ inl refl | false ↦ inr refl ]

least_is : (v : ℤ) (vs : List ℤ) → IsLeast (v ∷ vs) (least_of v vs)
least_is v vs = record {
  in_it = picked_is_there int_min ◌≤ℤ◌ one_of_min (λ a b. omega (arith, ints, clamps)) (λ a b. omega (arith, ints, clamps)) (λ a b c p q. omega (arith, ints)) v vs;
  none_smaller = picked_before_all int_min ◌≤ℤ◌ one_of_min (λ a b. omega (arith, ints, clamps)) (λ a b. omega (arith, ints, clamps)) (λ a b c p q. omega (arith, ints)) v vs;
}

greatest_is : (v : ℤ) (vs : List ℤ) → IsGreatest (v ∷ vs) (greatest_of v vs)
greatest_is v vs = record {
  in_it = picked_is_there int_max (λ a b. b ≤ℤ a) one_of_max (λ a b. omega (arith, ints, clamps)) (λ a b. omega (arith, ints, clamps)) (λ a b c p q. omega (arith, ints)) v vs;
  none_larger = picked_before_all int_max (λ a b. b ≤ℤ a) one_of_max (λ a b. omega (arith, ints, clamps)) (λ a b. omega (arith, ints, clamps)) (λ a b c p q. omega (arith, ints)) v vs;
}

-- each kind by itself

count_plain : AnswersPlainly count (plain Counts)
count_plain g all small = ap (λ a. Number (pos a)) (counts g small)

sum_plain : AnswersPlainly sum (plain Sums)
sum_plain g all small = ap Number (adds 2 (λ a _. Number a) g all small)

least_answer : (vs : List ℤ) → extreme_answer (extreme_of int_min (λ a b c. omega (arith, ints, clamps)) vs) ≡ plain Leasts vs
unfolding extreme_of
least_answer [] = refl
least_answer (v ∷ vs) = refl

least_plain : AnswersPlainly least (plain Leasts)
least_plain g all small = ap extreme_answer (picks int_min (λ a b c. omega (arith, ints, clamps)) 3 g) ∙ least_answer (values g)

greatest_answer : (vs : List ℤ) → extreme_answer (extreme_of int_max (λ a b c. omega (arith, ints, clamps)) vs) ≡ plain Greatests vs
unfolding extreme_of
greatest_answer [] = refl
greatest_answer (v ∷ vs) = refl

greatest_plain : AnswersPlainly greatest (plain Greatests)
greatest_plain g all small = ap extreme_answer (picks int_max (λ a b c. omega (arith, ints, clamps)) 4 g) ∙ greatest_answer (values g)

mean_answer : (vs : List ℤ) → mean_of (sum_of vs) (length vs) ≡ plain Means vs
mean_answer [] = refl
mean_answer (v ∷ vs) = grind (arith, nat_tests)

mean_plain : AnswersPlainly mean (plain Means)
mean_plain g all small = ap (λ a. mean_of a (length (values g))) (adds 5 mean_of g all small) ∙ mean_answer (values g)

-- and where it is picked at run time: joining wrapped values is joining and then wrapping
module _ {V W : Type 0} (wrap : V → W) (own : W → Option V) (blank : Answer) (owns : (x : V) → own (wrap x) ≡ Some x) (m : Meaning V Answer) where
  joined_lifted : (g : Grouping) → joined (lifted wrap own blank m) g ≡ wrap (joined m g)
  joined_lifted nothing = refl
  joined_lifted (row v) = refl
  joined_lifted (both g h) = rw (joined_lifted g, joined_lifted h, owns (joined m g), owns (joined m h))

  lifted_plain : (aggregate : List ℤ → Answer) → AnswersPlainly m aggregate → AnswersPlainly (lifted wrap own blank m) aggregate
  lifted_plain aggregate plainly g all small = rw (joined_lifted g, owns (joined m g)) (plainly g all small)

chosen_plain : (k : AnyMeasure) → AnswersPlainly (chosen k) (plain k)
chosen_plain Counts = lifted_plain Rows rows_in NoRows (λ _. refl) count (plain Counts) count_plain
chosen_plain Sums = lifted_plain Total total_in NoRows (λ _. refl) sum (plain Sums) sum_plain
chosen_plain Leasts = lifted_plain Extreme extreme_in NoRows (λ _. refl) least (plain Leasts) least_plain
chosen_plain Greatests = lifted_plain Extreme extreme_in NoRows (λ _. refl) greatest (plain Greatests) greatest_plain
chosen_plain Means = lifted_plain Total total_in NoRows (λ _. refl) mean (plain Means) mean_plain

pub five_kinds : FiveKinds
five_kinds = record {
  count_is_plain = count_plain;
  sum_is_plain = sum_plain;
  least_is_plain = least_plain;
  greatest_is_plain = greatest_plain;
  mean_is_plain = mean_plain;
  chosen_is_plain = chosen_plain;
  least_is_least = least_is;
  greatest_is_greatest = greatest_is;
  count_never_wraps = λ a b n fa fb h p. let e = eqb-true (counted a b) n p in grind (arith, nat_tests);
  sum_never_wraps = λ a b n fa fb h p. let e = leb-true (nat_abs (total a b)) (greatest_value * n) p in grind (arith, ints, nat_tests);
}

-- a list that is joined from its first value on is one grouping of it
in_a_row : Grouping → List ℤ → Grouping
in_a_row g [] = g
in_a_row g (v ∷ vs) = in_a_row (both g (row v)) vs

values_in_a_row : (g : Grouping) (vs : List ℤ) → values (in_a_row g vs) ≡ values g ++ vs
unfolding in_a_row
values_in_a_row g [] = sym (append-nil (values g))
values_in_a_row g (v ∷ vs) = values_in_a_row (both g (row v)) vs ∙ append_assoc (values g) (v ∷ []) vs

-- the one-row values of a list, joined from the first on
abbrev pub joined_list : {V A : Type 0} → Meaning V A → V → List ℤ → V
joined_list m a vs = fold (λ b v. m.join b (m.one (v ∷ []))) a vs

joined_in_a_row : {V A : Type 0} (m : Meaning V A) (g : Grouping) (vs : List ℤ) → joined m (in_a_row g vs) ≡ joined_list m (joined m g) vs
unfolding in_a_row
joined_in_a_row m g [] = refl
joined_in_a_row m g (v ∷ vs) = joined_in_a_row m (both g (row v)) vs

pub list_is_plain : (k : AnyMeasure) (vs : List ℤ) → are_measured_rows vs ≡ true → (chosen k).answer (joined_list (chosen k) (chosen k).none vs) (length vs) ≡ plain k vs
list_is_plain k vs rows =
    let (few, all) = and_parts _ _ rows in
    let g = in_a_row nothing vs in
    let e = values_in_a_row nothing vs in
    let p = chosen_plain k g (subst (AllByRecursion RowValue) (sym e) (all_row_values_true vs all)) (subst (λ l. length l ≤ most_rows) (sym e) (leb-true (length vs) most_rows few)) in
    ap (λ a. (chosen k).answer a (length vs)) (sym (joined_in_a_row (chosen k) nothing vs)) ∙ ap (λ l. (chosen k).answer (joined (chosen k) g) (length l)) (sym e) ∙ p ∙ ap (plain k) e
