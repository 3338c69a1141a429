-- Words none of which is wrong begin some plan. Assumes nothing.
use Rattle.std.proofs.Common.{◌≡◌, ℕ, ◌+◌, Bool, true, false, cond, ◌&&◌, ltb, List, [], ◌∷◌, ◌++◌, pos, Some, None, Ok, Err, Option, Result, sym, refl, ap, ◌∙◌}
use Rattle.std.proofs.lemmas.Bool.{true≢false, cond-true, lt-ltb, leb-false, eq-eqb}
use Rattle.text.specs.declared.refusal.Refusal.{Refusal}
use Rattle.words.specs.Lexemes.{Lexeme, name, reserved, number, sign, shift, bracket, feed, same}
use Rattle.words.specs.Spots.{Spot, spot, past}
use Rattle.words.specs.Tables.{place}
use Rattle.words.specs.declared.signs.Sign.TheVariants.{Equal}
use Rattle.words.specs.declared.tokens.Keyword.TheVariants as keywords
use Rattle.conditions.specs.Trees.{Tree, compare, denial, bracketed, both}
use Rattle.conditions.specs.Machine.{Names, Prefix, deny, along, Level, Place, Side, left, right, Seen, State, term, operand, field, by, compared, after, settle, settled, arrived, joined, Outcome, accepted, refused, refusal}
use Rattle.conditions.specs.Machine as conditions
use Rattle.conditions.specs.declared.condition.Shift.TheVariants.{Plus, Minus}
use Rattle.conditions.specs.declared.condition.Operand.{Operand}
use Rattle.conditions.specs.declared.condition.Operand.TheVariants.{Number}
use Rattle.plan.specs.Drafts.{Head, Entry, Draft, names_of, column_names, with_column, no_fields}
use Rattle.plan.specs.Machine.{Stage, Motion, on, halt, step, start, rows, second, bases, line, measured, headed, asks, enter, some, naming, naming_line, first_line, second_line, column_name, measure, measured_at, measured_word, after_head, asking, whole, finish, run}
use Rattle.plan.specs.Machine as stages
use Rattle.any_measure.specs.declared.any.AnyMeasure.{AnyMeasure}
use Rattle.any_measure.specs.declared.any.AnyMeasure.TheVariants.{Count}
use Rattle.plan.proofs.Asking.{after_condition, asks_run}
use Rattle.plan_laws.proofs.Stepping.{Moved, Keeps, step_kept}
use Rattle.plan_laws.specs.Theorems.{reached, no_more, exhausted, GoodWordsGoOn}

-- the condition is accepted after some words more
record Closes (e : Names) (σ : Seen) (st : State) : Type 0 where
  words : List Lexeme
  ends : (at : Spot) → (t : Tree) × ((τ : Seen) × ((at' : Spot) × (conditions.run e σ st at words ≡ accepted t τ at' [])))

-- one word more before it
before : (e : Names) (σ σ' : Seen) (st st' : State) (x : Lexeme) → conditions.step e σ st x ≡ conditions.go st' σ' → Closes e σ' st' → Closes e σ st
before e σ σ' st st' x h c = record {
  words = x ∷ c.words;
  ends = λ at. let r = c.ends (past x at) in (r.0, (r.1.0, (r.1.1.0, ap (λ (m : conditions.Move). elim m as (λ _. Outcome) [ conditions.go s τ ↦ conditions.run e τ s (past x at) c.words | conditions.stop f ↦ refused (refusal f at) | conditions.done t τ ↦ accepted t τ (past x at) c.words ]) h ∙ r.1.1.1)));
}

-- a term stands where the words after it close
closes_settle : (e : Names) (σ : Seen) (ps : List Prefix) (t : Tree) (o : Option Tree) (ls : List Level) → ((u : Tree) → Closes e σ (after o u ls)) → Closes e σ (settle ps t o ls)
closes_settle e σ [] t o ls k = k t
closes_settle e σ (deny ∷ ps) t o ls k = closes_settle e σ ps (denial t) o ls k
closes_settle e σ (along u ∷ ps) t o ls k = closes_settle e σ ps (both u t) o ls k

-- after a term: a closing bracket for each open one, then the line's end
closes_after : (e : Names) (σ : Seen) (o : Option Tree) (t : Tree) (ls : List Level) → Closes e σ (after o t ls)
closes_after e σ o t [] = record { words = feed ∷ []; ends = λ at. (joined o t, (σ, (past feed at, refl))) }
closes_after e σ o t (l ∷ ls) =
    before e σ σ (after o t (l ∷ ls)) (settle l.before (bracketed (joined o t)) l.ors ls) (bracket false) refl
    (closes_settle e σ l.before (bracketed (joined o t)) l.ors ls (λ u. closes_after e σ l.ors u ls))

closes_settled : (e : Names) (σ : Seen) (p : Place) (t : Tree) → Closes e σ (settled p t)
closes_settled e σ p t = closes_settle e σ p.here.before t p.here.ors p.outer (λ u. closes_after e σ p.here.ors u p.outer)

closes_compared : (e : Names) (σ : Seen) (p : Place) (o : Operand) → Closes e σ (compared p o)
closes_compared e σ p o =
    before e σ σ (compared p o) (operand p o Equal) (sign Equal) refl
    (before e σ σ (operand p o Equal) (settled p (compare (record { left = o; sign = Equal; right = Number (pos 1) }))) (number (pos 1)) refl (closes_settled e σ p _))

closes_arrived : (e : Names) (σ : Seen) (p : Place) (side : Side) (o : Operand) → Closes e σ (arrived p side o)
closes_arrived e σ p left o = closes_compared e σ p o
closes_arrived e σ p (right l s) o = closes_settled e σ p _

-- every condition goes on to its end, unless a term must follow sixteen comparisons
closes : (e : Names) (σ : Seen) (st : State) → no_more σ st ≡ false → Closes e σ st
closes e σ (term p) h =
    let τ : Seen = record { comparisons = σ.comparisons + 1; different = σ.different; fields = σ.fields } in
    before e σ τ (term p) (compared p (Number (pos 1))) (number (pos 1)) (cond-true (ltb σ.comparisons 16) _ _ (lt-ltb _ 16 (leb-false 16 σ.comparisons h))) (closes_compared e τ p (Number (pos 1)))
closes e σ (operand p l s) h = before e σ σ (operand p l s) (settled p (compare (record { left = l; sign = s; right = Number (pos 1) }))) (number (pos 1)) refl (closes_settled e σ p _)
closes e σ (field p side mk) h =
    before e σ σ (field p side mk) (by p side mk true) (shift true) refl
    (before e σ σ (by p side mk true) (arrived p side (mk (Plus 1))) (number (pos 1)) refl (closes_arrived e σ p side (mk (Plus 1))))
closes e σ (by p side mk plus) h = before e σ σ (by p side mk plus) (arrived p side (mk (cond plus (Plus 1) (Minus 1)))) (number (pos 1)) refl (closes_arrived e σ p side _)
closes e σ (compared p o) h = closes_compared e σ p o
closes e σ (after o t ls) h = closes_after e σ o t ls

-- a plan is accepted after some words more
record Ends (st : Stage) : Type 0 where
  words : List Lexeme
  ends : (at : Spot) → (d : Draft) × (run st at words ≡ Ok d)

ahead : (st st' : Stage) (x : Lexeme) → step st x ≡ on st' → Ends st' → Ends st
ahead st st' x h c = record {
  words = x ∷ c.words;
  ends = λ at. let r = c.ends (past x at) in (r.0, ap (λ (m : Motion). elim m as (λ _. Result Draft Refusal) [ on s ↦ run s (past x at) c.words | halt f ↦ Err (refusal f at) ]) h ∙ r.1);
}

whole_last : (d : Draft) (cs : List Entry) (c : Entry) (at : Spot) → whole d (cs ++ (c ∷ [])) at ≡ Ok d
whole_last d [] c at = refl
whole_last d (b ∷ cs) c at = refl

-- with a column more the plan may end
ends_column : (d : Draft) (h : Head) (t : Option Tree) (fs : List Bool) → Ends (line (with_column d h t fs))
ends_column d h t fs = record { words = []; ends = λ at. (with_column d h t fs, whole_last (with_column d h t fs) d.columns (record { head = h; condition = t; fields = fs }) at) }

ends_headed : (d : Draft) (h : Head) → Ends (headed d h)
ends_headed d h = ahead (headed d h) (line (with_column d h None no_fields)) feed refl (ends_column d h None no_fields)

ends_named : (d : Draft) (n : List ℕ) → Ends (stages.named d n)
ends_named d n = ahead (stages.named d n) (headed d (record { name = n; measure = Count; field = None })) (reserved keywords.Count) refl (ends_headed d _)

same_self : (w : List ℕ) → same w w ≡ true
same_self [] = refl
same_self (a ∷ w) = λ i. eq-eqb a a refl i && same_self w i

ends_measured : (d : Draft) (n : List ℕ) (k : AnyMeasure) → some d.rows ≡ true → Ends (measured d n k)
ends_measured d n k h = by_rows d.rows refl
  where
    by_rows : (rs : List (List ℕ)) → d.rows ≡ rs → Ends (measured d n k)
    by_rows [] e = absurd (true≢false (sym h ∙ ap some e))
    by_rows (r ∷ rs) e =
        ahead (measured d n k) (headed d (record { name = n; measure = k; field = Some 0 })) (name false r)
        (ap (measured_at d n k) (ap (λ l. place l r 0) e ∙ cond-true (same r r) _ _ (same_self r))) (ends_headed d _)

ends_line_stage : (d : Draft) → Ends (line d)
ends_line_stage d = by_columns d.columns refl
  where
    by_columns : (cs : List Entry) → d.columns ≡ cs → Ends (line d)
    by_columns [] e = ahead (line d) (stages.named d (120 ∷ [])) (name false (120 ∷ [])) (ap (λ c. enter (column_names c) (120 ∷ []) 8 (stages.named d (120 ∷ []))) e) (ends_named d (120 ∷ []))
    by_columns (c ∷ cs) e = record { words = []; ends = λ at. (d, ap (λ l. whole d l at) e) }

-- a base line with a name may end
ends_based : (rs : List (List ℕ)) (n : List ℕ) (ns : List (List ℕ)) → Ends (bases rs (n ∷ ns))
ends_based rs n ns = ahead (bases rs (n ∷ ns)) (line (record { rows = rs; base = n ∷ ns; columns = [] })) feed refl (ends_line_stage _)

ends_bases : (rs ns : List (List ℕ)) → Ends (bases rs ns)
ends_bases rs (n ∷ ns) = ends_based rs n ns
ends_bases rs [] = ahead (bases rs []) (bases rs ((65 ∷ []) ∷ [])) (name true (65 ∷ [])) refl (ends_based rs (65 ∷ []) [])

ends_second : (rs : List (List ℕ)) → Ends (second rs)
ends_second rs = ahead (second rs) (bases rs []) (reserved keywords.Base) refl (ends_bases rs [])

ends_rows : (ns : List (List ℕ)) → Ends (rows ns)
ends_rows (n ∷ ns) = ahead (rows (n ∷ ns)) (second (n ∷ ns)) feed refl (ends_second (n ∷ ns))
ends_rows [] = ahead (rows []) (rows ((97 ∷ []) ∷ [])) (name false (97 ∷ [])) refl (ahead (rows ((97 ∷ []) ∷ [])) (second ((97 ∷ []) ∷ [])) feed refl (ends_second ((97 ∷ []) ∷ [])))

ends_asks : (d : Draft) (h : Head) (σ : Seen) (st : State) → no_more σ st ≡ false → Ends (asks d h σ st)
ends_asks d h σ st e =
    let c = closes (names_of d) σ st e in
    record {
      words = c.words;
      ends = λ at. let r = c.ends at in (with_column d h (Some r.0) r.1.0.fields, asks_run d h σ st at c.words ∙ ap (after_condition d h) r.1.1.1 ∙ whole_last _ d.columns _ r.1.1.0);
    }

-- rows are named before a column is read
abbrev Live : Stage → Type 0
Live start = Unit {0}
Live (rows ns) = Unit {0}
Live (second rs) = some rs ≡ true
Live (bases rs ns) = some rs ≡ true
Live (line d) = some d.rows ≡ true
Live (stages.named d n) = some d.rows ≡ true
Live (measured d n k) = some d.rows ≡ true
Live (headed d h) = some d.rows ≡ true
Live (asks d h σ st) = some d.rows ≡ true

asking_live : (d : Draft) (h : Head) (m : conditions.Move) → some d.rows ≡ true → Moved Live (asking d h m)
asking_live d h (conditions.go s τ) l = l
asking_live d h (conditions.stop f) l = tt
asking_live d h (conditions.done t τ) l = l

-- every word keeps them
keeps : Keeps Live
keeps = record {
  first = tt;
  row_name = λ ns w l m. tt;
  rows_end = λ ns l m. m;
  base_line = λ rs l. l;
  base_name = λ rs ns w l m. l;
  base_end = λ rs ns l m. l;
  title = λ d w l m. l;
  measures = λ d n m l. l;
  counts = λ d n m l. l;
  measured_field = λ d n m i l. l;
  asked = λ d h l. l;
  bare = λ d h l. l;
  asks_on = λ d h σ st x l. asking_live d h (conditions.step (names_of d) σ st x) l;
}

-- every stage but an exhausted one goes on to a whole plan
goes_on : (st : Stage) → Live st → exhausted st ≡ false → Ends st
goes_on start l h = ahead start (rows []) (reserved keywords.Rows) refl (ends_rows [])
goes_on (rows ns) l h = ends_rows ns
goes_on (second rs) l h = ends_second rs
goes_on (bases rs ns) l h = ends_bases rs ns
goes_on (line d) l h = ends_line_stage d
goes_on (stages.named d n) l h = ends_named d n
goes_on (measured d n k) l h = ends_measured d n k l
goes_on (headed d g) l h = ends_headed d g
goes_on (asks d g σ s) l h = ends_asks d g σ s h

-- words that lead to a stage, and those that end a plan from there
joined_run : (st : Stage) (at : Spot) (front : List Lexeme) (st' : Stage) → Live st → reached st front ≡ Some st' → exhausted st' ≡ false → (rest : List Lexeme) × ((d : Draft) × (run st at (front ++ rest) ≡ Ok d))
joined_run st at [] st' l r h =
    let e : st ≡ st' = cc in
    let c = goes_on st l (ap exhausted e ∙ h) in
    (c.words, ((c.ends at).0, (c.ends at).1))
joined_run st at (x ∷ xs) st' l r h = by_step (λ s k q. joined_run s (past x at) xs st' k q h) (step st x) (step_kept Live keeps st x l) r
  where
    by_step : ((s : Stage) → Live s → reached s xs ≡ Some st' → (rest : List Lexeme) × ((d : Draft) × (run s (past x at) (xs ++ rest) ≡ Ok d))) → (m : Motion) → Moved Live m → ◌≡◌ {A = Option Stage} (elim m [ on s ↦ reached s xs | halt f ↦ None ]) (Some st') → (rest : List Lexeme) × ((d : Draft) × (◌≡◌ {A = Result Draft Refusal} (elim m [ on s ↦ run s (past x at) (xs ++ rest) | halt f ↦ Err (refusal f at) ]) (Ok d)))
    by_step ih (on s) k q = ih s k q
    by_step ih (halt f) k q = cc

pub good_words_go_on : GoodWordsGoOn
good_words_go_on front st r h = joined_run start (spot 1 1) front st tt r h
