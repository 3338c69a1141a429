-- An accepted plan keeps every limit. Assumes nothing.
use Rattle.std.proofs.Common.{◌≡◌, ℕ, ◌<◌, ◌≤◌, Bool, true, false, ltb, List, [], ◌∷◌, ◌++◌, length, Some, None, Ok, Err, Option, Result, sym, refl, ap, ◌∙◌, subst, arith, length-append}
use Rattle.std.proofs.lemmas.Bool.{true≢false, ltb-true, ltb-false}
use Rattle.text.specs.declared.refusal.Refusal.{Refusal}
use Rattle.words.specs.Lexemes.{Lexeme}
use Rattle.words.specs.Spots.{Spot, spot, past}
use Rattle.words.specs.Cutting.{lexemes}
use Rattle.words.specs.Tables.{place}
use Rattle.words.proofs.Tabling.{place_below}
use Rattle.conditions.specs.Trees.{Tree}
use Rattle.conditions.specs.Machine.{Names, Fault, form, refusal, Seen, State, term, Outcome, accepted, refused}
use Rattle.conditions.specs.Machine as conditions
use Rattle.conditions.specs.declared.condition.Found.TheVariants.{RowField}
use Rattle.conditions.proofs.Keeping as conditions_kept
use Rattle.conditions.proofs.Limits as limits
use Rattle.conditions.proofs.Noting as noting
use Rattle.conditions.proofs.Names.{row_place}
use Rattle.plan.specs.Drafts.{Head, Entry, Draft, names_of, with_column, no_fields}
use Rattle.plan.specs.Machine.{Stage, Motion, on, halt, step, start, rows, second, bases, line, measured, headed, asks, enter, some, naming, naming_line, first_line, second_line, column_name, after_kind, measure, measured_at, measured_word, after_head, asking, whole, finish, run, plan_of}
use Rattle.plan.specs.Machine as machine
use Rattle.plan.proofs.Pairing.{names_long}
use Rattle.plan.proofs.Whole.{too_long}
use Rattle.plan_laws.proofs.Prefixes.{short_run}
use Rattle.plan_laws.proofs.Stepping.{Moved, Keeps, step_kept, finishes}
use Rattle.plan_laws.specs.Theorems.{Limited, AllLimited, Limits, AcceptedKeepsLimits}

-- a plan so far: its names stand, and its columns keep the limits
record Sound (d : Draft) : Type 0 where
  rows : (0 < length d.rows) × (length d.rows ≤ 8)
  base : (0 < length d.base) × (length d.base ≤ 4)
  columns : length d.columns ≤ 8
  conditions : AllLimited d.columns

-- what holds at each stage
abbrev Kept : Stage → Type 0
Kept start = Unit {0}
Kept (rows ns) = length ns ≤ 8
Kept (second rs) = (0 < length rs) × (length rs ≤ 8)
Kept (bases rs ns) = ((0 < length rs) × (length rs ≤ 8)) × (length ns ≤ 4)
Kept (line d) = Sound d
Kept (machine.named d n) = Sound d × (length d.columns < 8)
Kept (measured d n k) = Sound d × (length d.columns < 8)
Kept (headed d h) = Sound d × (length d.columns < 8)
Kept (asks d h σ st) = (Sound d × (length d.columns < 8)) × limits.Kept st σ × ((f : ℕ) → noting.Kept f st σ)

-- what holds of an outcome
abbrev Good : Result Draft Refusal → Type 0
Good (Ok d) = Limits d
Good (Err f) = Unit {0}

-- one column more within the limits
all_more : (es : List Entry) (e : Entry) → AllLimited es → Limited e.condition e.fields → AllLimited (es ++ (e ∷ []))
all_more [] e a l = (l, tt)
all_more (f ∷ es) e a l = (a.0, all_more es e a.1 l)

column_more : (d : Draft) (h : Head) (t : Option Tree) (fs : List Bool) → Sound d × (length d.columns < 8) → Limited t fs → Sound (with_column d h t fs)
column_more d h t fs k l =
    let e : Entry = record { head = h; condition = t; fields = fs } in
    record { rows = k.0.rows; base = k.0.base; columns = omega (arith, k.1, length-append d.columns (e ∷ [])); conditions = all_more d.columns e k.0.conditions l }

-- the end of the text
finish_kept : (st : Stage) (at : Spot) → Kept st → Good (finish st at)
finish_kept st at k = finishes Good at st (λ d e. by_columns d (subst Kept e k) d.columns refl) tt
  where
    by_columns : (d : Draft) → Sound d → (cs : List Entry) → d.columns ≡ cs → Good (whole d cs at)
    by_columns d k [] e = tt
    by_columns d k (c ∷ cs) e = record { rows = k.rows; base = k.base; columns = (omega (arith, ap length e), k.columns); conditions = k.conditions }

-- the row fields that a plan's names give are among eight
names_known : (d : Draft) → Sound d → (w : List ℕ) (i : ℕ) → names_of d w ≡ Ok (RowField i) → i < 8
names_known d k w i h = omega (arith, k.rows.1, place_below d.rows w 0 i (row_place (place d.rows w 0) (place d.base w 0) i h))

-- a word of a condition
asking_kept : (d : Draft) (h : Head) (m : conditions.Move) → Sound d × (length d.columns < 8) → conditions_kept.Moved limits.Kept limits.WithinLimits m → ((f : ℕ) → conditions_kept.Moved (noting.Kept f) (noting.Noted f) m) → Moved Kept (asking d h m)
asking_kept d h (conditions.go st σ) k l n = (k, l, n)
asking_kept d h (conditions.stop f) k l n = tt
asking_kept d h (conditions.done t σ) k l n = let q = noting.noted_fields t σ n in column_more d h (Some t) σ.fields k (l.1, l.0, q.2, q.1)

some_long : (ns : List (List ℕ)) → some ns ≡ true → 0 < length ns
some_long [] s = absurd (true≢false (sym s))
some_long (n ∷ ns) s = omega arith

-- every word keeps the limits
keeps : Keeps Kept
keeps = record {
  first = omega arith;
  row_name = λ ns w k l. omega (arith, l, length-append ns (w ∷ []));
  rows_end = λ ns k s. (some_long ns s, k);
  base_line = λ rs k. (k, omega arith);
  base_name = λ rs ns w k l. (k.0, omega (arith, l, length-append ns (w ∷ [])));
  base_end = λ rs ns k s. record { rows = k.0; base = (some_long ns s, k.1); columns = omega arith; conditions = tt };
  title = λ d w k l. (k, omega (arith, l, names_long d.columns));
  measures = λ d n m k. k;
  counts = λ d n m k. k;
  measured_field = λ d n m i k. k;
  asked = λ d h k. (k, limits.at_first, λ f. noting.at_first f);
  bare = λ d h k. column_more d h None no_fields k refl;
  asks_on = λ d h σ st x k. asking_kept d h (conditions.step (names_of d) σ st x) k.0 (limits.step_keeps (names_of d) σ st x k.1) (λ f. noting.step_keeps f (names_of d) (names_known d k.0.0) σ st x (k.2 f));
}

run_kept : (st : Stage) (at : Spot) (xs : List Lexeme) → Kept st → Good (run st at xs)
run_kept st at [] k = finish_kept st at k
run_kept st at (x ∷ xs) k = by_step (λ st' v. run_kept st' (past x at) xs v) (step st x) (step_kept Kept keeps st x k)
  where
    by_step : ((st' : Stage) → Kept st' → Good (run st' (past x at) xs)) → (m : Motion) → Moved Kept m → Good (elim m [ on st' ↦ run st' (past x at) xs | halt f ↦ Err (refusal f at) ])
    by_step ih (on st') k = ih st' k
    by_step ih (halt f) k = tt

pub accepted_keeps_limits : AcceptedKeepsLimits
accepted_keeps_limits text d h = by_length (ltb 4096 (length text)) refl
  where
    by_length : (b : Bool) → ltb 4096 (length text) ≡ b → (length text ≤ 4096) × Limits d
    by_length true e = let z : ◌≡◌ {A = ℕ} 0 1 = cc (too_long text (ltb-true 4096 (length text) e)) in absurd (omega arith)
    by_length false e =
        let l = ltb-false 4096 (length text) e in
        (l, subst Good (sym (short_run text l) ∙ h) (run_kept start (spot 1 1) (lexemes text) tt))
