-- A plan from its text, line by line. Assumes nothing.
use Rattle.std.proofs.Common.{◌≡◌, ℕ, ◌<◌, ◌≤◌, true, false, ltb, List, [], ◌∷◌, length, take, Some, Ok, Err, Option, Result, sym, refl, ap, ◌∙◌, subst, arith}
use Rattle.std.proofs.lemmas.List.{take_all}
use Rattle.std.proofs.lemmas.Bool.{true≢false, cond-true, cond-false, lt-ltb, le-ltb}
use Rattle.text.specs.declared.refusal.Refusal.{Refusal}
use Rattle.text.specs.declared.refusal.Refusal.TheVariants.{PlanLimit}
use Rattle.words.specs.Lexemes.{Lexeme}
use Rattle.words.specs.Spots.{Spot, spot, past}
use Rattle.words.specs.Cutting.{later, none_left, lexemes, to_come, here}
use Rattle.words.specs.Tables.{texts}
use Rattle.words.specs.declared.cursor.Words.{Words}
use Rattle.conditions.specs.Machine.{form, refusal}
use Rattle.plan.specs.Lines.{leading, declared}
use Rattle.plan.specs.Drafts.{Entry, Draft, draft_of, columns_of}
use Rattle.plan.specs.Machine.{Stage, halt, start, rows, second, bases, line, first_line, second_line, column_name, whole, finish, run, plan_of}
use Rattle.plan.specs.Promises.{rest, onto, LineOfNames, meant, awaited, Unread}
use Rattle.any_measure.specs.declared.any.AnyMeasure.{AnyMeasure}
use Rattle.plan.specs.declared.plan.Plan.{Plan}
use Rattle.plan.specs.declared.reading.Awaits.{Awaits}
use Rattle.plan.specs.declared.reading.Awaits.TheVariants.{Rows, Base, Columns}
use Rattle.plan.specs.declared.words_of_plan.Leading.{Leading}
use Rattle.plan.specs.declared.words_of_plan.Leading.TheVariants as leads
use Rattle.plan.proofs.Motions.{next_of, moves_by, moves_some, advanced, halted}

-- too long a text
pub too_long : (text : List ℕ) → 4096 < length text → Err (PlanLimit 0 0) ≡ plan_of text
unfolding plan_of
too_long text h = sym (cond-true (ltb 4096 (length text)) _ _ (lt-ltb 4096 _ h))

-- the first word
pub begins : (text : List ℕ) (w : Words) → length text ≤ 4096 → to_come w ≡ lexemes (take 4096 text) → here w ≡ spot 1 1 → plan_of text ≡ rest w start
unfolding plan_of rest
begins text w h ws at = cond-false (ltb 4096 (length text)) _ _ (le-ltb 4096 _ h) ∙ (λ i. run start (sym at i) (ap lexemes (sym (take_all 4096 text h)) i)) ∙ (λ i. run start (here w) (sym ws i))

-- a refusal handed on by `?`
pub refused : (o : Result Draft Refusal) (x : Result (Plan AnyMeasure) Refusal) (y f : Refusal) → x ≡ Err y → y ≡ f → o ≡ Err f → meant x ≡ o
refused o x y f p q h = ap meant (p ∙ ap Err q) ∙ sym h

-- the lines of names
pub rows_line : LineOfNames rows second false 8
rows_line = record { steps = λ ns x. refl; mid = λ ns at. refl }

pub base_line : (rs : List (List ℕ)) → LineOfNames (bases rs) (λ ms. line (record { rows = rs; base = ms; columns = [] })) true 4
base_line rs = record { steps = λ ns x. refl; mid = λ ns at. refl }

-- the first words of the two lines
at_start : (v : Words) (l : Option Leading) → l ≡ leading (next_of v) → rest v start ≡ onto v (first_line l)
at_start v l is = moves_by leading first_line v start _ l (λ at. refl) refl (λ y. refl) is refl

at_second : (v : Words) (rs : List (List ℕ)) (l : Option Leading) → l ≡ leading (next_of v) → rest v (second rs) ≡ onto v (second_line rs l)
at_second v rs l is = moves_by leading (second_line rs) v (second rs) _ l (λ at. refl) refl (λ y. refl) is refl

-- a reader that waits for the rows line, and reads its first word
pub at_rows : (v w : Words) (a : Awaits) (p : Plan AnyMeasure) → a ≡ Rows → Unread a p → Some leads.Rows ≡ leading (next_of v) → to_come w ≡ later (to_come v) → here w ≡ past (next_of v) (here v) → (texts p.names.rows ≡ []) × (rest v (awaited a p) ≡ rest w (rows (texts p.names.rows)))
at_rows v w a p e u is ws at =
    let n = subst (λ b. Unread b p) e u in
    (n.0, ap (λ b. rest v (awaited b p)) e ∙ at_start v (Some leads.Rows) is ∙ advanced v w (rows []) ws at ∙ ap (λ ns. rest w (rows ns)) (sym n.0))

-- the same of the base line
pub at_base : (v w : Words) (a : Awaits) (p : Plan AnyMeasure) → a ≡ Base → Unread a p → Some leads.Base ≡ leading (next_of v) → to_come w ≡ later (to_come v) → here w ≡ past (next_of v) (here v) → (texts p.names.base ≡ []) × (rest v (awaited a p) ≡ rest w (bases (texts p.names.rows) (texts p.names.base)))
at_base v w a p e u is ws at =
    let n = subst (λ b. Unread b p) e u in
    (n.0, ap (λ b. rest v (awaited b p)) e ∙ at_second v (texts p.names.rows) (Some leads.Base) is ∙ advanced v w (bases (texts p.names.rows) []) ws at ∙ ap (λ ns. rest w (bases (texts p.names.rows) ns)) (sym n.0))

-- the first word is not the one that is waited for
abbrev pub Misplaced : Awaits → Option Leading → Type 0
Misplaced Rows l = first_line l ≡ halt form
Misplaced Base l = (rs : List (List ℕ)) → second_line rs l ≡ halt form
Misplaced Columns l = ⊥

pub misplaced : (v : Words) (a : Awaits) (p : Plan AnyMeasure) (l : Option Leading) (y : Refusal) → Misplaced a l → l ≡ leading (next_of v) → y ≡ refusal form (here v) → rest v (awaited a p) ≡ Err y
misplaced v Rows p l y m is h = at_start v l is ∙ ap (onto v) m ∙ halted v form y h
misplaced v Base p l y m is h = at_second v (texts p.names.rows) l is ∙ ap (onto v) (m (texts p.names.rows)) ∙ halted v form y h
misplaced v Columns p l y m is h = absurd m

-- a column line
pub column_begins : (v : Words) (d : Draft) → false ≡ none_left (to_come v) → rest v (line d) ≡ onto v (column_name d (declared false (next_of v)))
column_begins v d h = moves_some v (line d) (sym h)

-- the end of the text
ends_at : (st : Stage) (at : Spot) (xs : List Lexeme) → true ≡ none_left xs → run st at xs ≡ finish st at
ends_at st at [] h = refl
ends_at st at (x ∷ xs) h = absurd (true≢false h)

ends : (v : Words) (st : Stage) → true ≡ none_left (to_come v) → rest v st ≡ finish st (here v)
unfolding rest
ends v st h = ends_at st (here v) (to_come v) h

whole_none : (d : Draft) (cs : List Entry) (at : Spot) → length cs ≡ 0 → whole d cs at ≡ Err (refusal form at)
whole_none d [] at h = refl
whole_none d (c ∷ cs) at h = absurd (omega arith)

whole_some : (d : Draft) (cs : List Entry) (at : Spot) → (length cs ≡ 0 → ⊥) → whole d cs at ≡ Ok d
whole_some d [] at h = absurd (h refl)
whole_some d (c ∷ cs) at h = refl

-- without a column the text is not whole
pub unfinished : (v : Words) (a : Awaits) (p : Plan AnyMeasure) (y : Refusal) → true ≡ none_left (to_come v) → length (columns_of p) ≡ 0 → y ≡ refusal form (here v) → rest v (awaited a p) ≡ Err y
unfinished v Rows p y h n g = ends v start h ∙ sym (ap Err g)
unfinished v Base p y h n g = ends v (second (texts p.names.rows)) h ∙ sym (ap Err g)
unfinished v Columns p y h n g = ends v (line (draft_of p)) h ∙ whole_none (draft_of p) (columns_of p) (here v) n ∙ sym (ap Err g)

-- with one it is
pub finished : (v : Words) (a : Awaits) (p : Plan AnyMeasure) → true ≡ none_left (to_come v) → (length (columns_of p) ≡ 0 → ⊥) → Unread a p → rest v (awaited a p) ≡ Ok (draft_of p)
finished v Rows p h n u = absurd (n (ap length u.2))
finished v Base p h n u = absurd (n (ap length u.1))
finished v Columns p h n u = ends v (line (draft_of p)) h ∙ whole_some (draft_of p) (columns_of p) (here v) n
