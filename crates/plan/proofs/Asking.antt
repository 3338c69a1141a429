-- A condition in a plan. Assumes nothing.
use Rattle.std.proofs.Common.{◌≡◌, ℕ, ◌<◌, ◌≤◌, List, [], ◌∷◌, length, IfOk, Some, None, Ok, Err, Result, sym, refl, ap, ◌∙◌, subst, arith}
use Rattle.text.specs.declared.refusal.Refusal.{Refusal}
use Rattle.words.specs.Lexemes.{Lexeme}
use Rattle.words.specs.Spots.{Spot, past}
use Rattle.words.specs.Tables.{texts, place}
use Rattle.conditions.specs.Trees.{Tree}
use Rattle.conditions.specs.Machine.{Names, Seen, State, term, Outcome, accepted, refused, Move, go, stop, done, form, refusal}
use Rattle.conditions.specs.Machine as conditions
use Rattle.conditions.specs.Promises.{opened, unread, condition_of, looks, named, ResultOf}
use Rattle.conditions.specs.Postfix.{trees, asked}
use Rattle.conditions.specs.declared.reader.Read.{Read}
use Rattle.words.specs.Cutting.{to_come, here}
use Rattle.words.specs.declared.cursor.Words.{Words}
use Rattle.plan.specs.Promises.{rest, Leads}
use Rattle.conditions.specs.declared.condition.FieldNames.{FieldNames}
use Rattle.plan.specs.Drafts.{Head, Draft, with_column, names_of}
use Rattle.plan.specs.Machine.{on, halt, line, asks, asking, run}

-- what a plan goes on to after a condition
abbrev pub after_condition : Draft → Head → Outcome → Result Draft Refusal
after_condition d h (accepted t σ at xs) = run (line (with_column d h (Some t) σ.fields)) at xs
after_condition d h (refused f) = Err f

-- a condition in a plan is read as it is by itself
pub asks_run : (d : Draft) (h : Head) (σ : Seen) (st : State) (at : Spot) (xs : List Lexeme) → run (asks d h σ st) at xs ≡ after_condition d h (conditions.run (names_of d) σ st at xs)
asks_run d h σ st at [] = refl
asks_run d h σ st at (x ∷ xs) = go_on (λ σ' st'. asks_run d h σ' st' (past x at) xs) (conditions.step (names_of d) σ st x)
  where
    go_on : ((σ' : Seen) (st' : State) → run (asks d h σ' st') (past x at) xs ≡ after_condition d h (conditions.run (names_of d) σ' st' (past x at) xs)) → (m : Move) → elim (asking d h m) [ on st' ↦ run st' (past x at) xs | halt f ↦ Err (refusal f at) ] ≡ after_condition d h (elim m [ go st' σ' ↦ conditions.run (names_of d) σ' st' (past x at) xs | stop f ↦ refused (refusal f at) | done t σ' ↦ accepted t σ' (past x at) xs ])
    go_on ih (go st' σ') = ih σ' st'
    go_on ih (stop f) = refl
    go_on ih (done t σ') = refl

pub asks_condition : (d : Draft) (h : Head) (at : Spot) (xs : List Lexeme) → run (asks d h unread (term (opened None []))) at xs ≡ after_condition d h (condition_of (names_of d) at xs)
unfolding condition_of
asks_condition d h at xs = asks_run d h unread (term (opened None [])) at xs

-- the fields that a plan's names give, by its tables
pub names_looked : (d : Draft) (n : FieldNames) → d.rows ≡ texts n.rows → d.base ≡ texts n.base → names_of d ≡ looks n
unfolding looks
names_looked d n p q = λ i w. named (place (p i) w 0) (place (q i) w 0)

-- after a condition fewer words are left
abbrev Left : Outcome → ℕ → Type 0
Left (accepted t σ at ys) n = length ys < n
Left (refused f) n = Unit {0}

run_left : (e : Names) (σ : Seen) (st : State) (at : Spot) (xs : List Lexeme) (n : ℕ) → length xs ≤ n → Left (conditions.run e σ st at xs) n
run_left e σ st at [] n h = tt
run_left e σ st at (x ∷ xs) n h = go_on (λ σ' st'. run_left e σ' st' (past x at) xs n (omega (arith, h))) (conditions.step e σ st x)
  where
    go_on : ((σ' : Seen) (st' : State) → Left (conditions.run e σ' st' (past x at) xs) n) → (m : Move) → Left (elim m [ go st' σ' ↦ conditions.run e σ' st' (past x at) xs | stop f ↦ refused (refusal f at) | done t σ' ↦ accepted t σ' (past x at) xs ]) n
    go_on ih (go st' σ') = ih σ' st'
    go_on ih (stop f) = tt
    go_on ih (done t σ') = omega (arith, h)

pub condition_left : (e : Names) (at : Spot) (xs : List Lexeme) (t : Tree) (σ : Seen) (at' : Spot) (ys : List Lexeme) → condition_of e at xs ≡ accepted t σ at' ys → length ys < length xs
unfolding condition_of
condition_left e at xs t σ at' ys h = subst (λ o. Left o (length xs)) h (run_left e unread (term (opened None [])) at xs (length xs) (omega arith))

-- what reading a condition gives is what the plan goes on with
pub where_leads : (v w : Words) (n : FieldNames) (x : Result Read Refusal) (d : Draft) (h : Head) → d.rows ≡ texts n.rows → d.base ≡ texts n.base → ResultOf x v w (looks n) → Leads w (rest v (asks d h unread (term (opened None [])))) (λ r. line (with_column d h (asked (trees r.condition)) r.fields)) x
unfolding rest
where_leads v w n (Ok r) d h p q g =
    asks_condition d h (here v) (to_come v) ∙ ap (λ e. after_condition d h (condition_of e (here v) (to_come v))) (names_looked d n p q) ∙ ap (after_condition d h) g.4
    ∙ (λ i. run (line (with_column d h (asked (sym g.2 i)) (sym g.3 i))) (here w) (to_come w))
where_leads v w n (Err f) d h p q g = asks_condition d h (here v) (to_come v) ∙ ap (λ e. after_condition d h (condition_of e (here v) (to_come v))) (names_looked d n p q) ∙ ap (after_condition d h) g.0

pub where_shorter : (v w : Words) (n : FieldNames) (x : Result Read Refusal) → ResultOf x v w (looks n) → IfOk x (λ _. length (to_come w) < length (to_come v))
where_shorter v w n (Ok r) g = condition_left (looks n) (here v) (to_come v) g.0 g.1 (here w) (to_come w) g.4
where_shorter v w n (Err f) g = tt
