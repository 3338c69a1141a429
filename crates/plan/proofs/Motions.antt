-- How the words of a plan still to come go on, one word at a time. Assumes nothing.
use Rattle.std.proofs.Common.{◌≡◌, ℕ, Bool, true, false, ◌&&◌, ltb, List, [], ◌∷◌, length, is_some, Err, Result, sym, refl, ap, ◌∙◌, subst}
use Rattle.std.proofs.lemmas.Bool.{true≢false, cond-true, cond-false}
use Rattle.text.specs.declared.refusal.Refusal.{Refusal}
use Rattle.words.specs.Lexemes.{Lexeme, cut}
use Rattle.words.specs.Spots.{Spot, past}
use Rattle.words.specs.Cutting.{next, later, none_left, to_come, here}
use Rattle.words.specs.Tables.{place}
use Rattle.words.specs.declared.cursor.Words.{Words}
use Rattle.conditions.specs.Machine.{Fault, form, taken, limit, refusal}
use Rattle.plan.specs.Lines.{declared, telling, wrong_of, ends_line}
use Rattle.plan.specs.declared.words_of_plan.NoName.{NoName}
use Rattle.plan.specs.declared.words_of_plan.NoName.TheVariants.{Held, OtherForm}
use Rattle.plan.specs.Drafts.{Draft}
use Rattle.plan.specs.Machine.{Stage, Motion, on, halt, enter, admit, some, naming, naming_line, step, finish, run}
use Rattle.plan.specs.Promises.{rest, pick, onto, Leads, LineOfNames}

-- the next word of a reader
abbrev pub next_of : Words → Lexeme
next_of w = next (to_come w)

-- words give what they give after the motion of the first, where there is one
run_some : (st : Stage) (at : Spot) (xs : List Lexeme) → none_left xs ≡ false → run st at xs ≡ pick at xs (step st (next xs))
run_some st at [] h = absurd (true≢false h)
run_some st at (x ∷ xs) h = go_on (step st x)
  where
    go_on : (m : Motion) → elim m [ on st' ↦ run st' (past x at) xs | halt f ↦ Err (refusal f at) ] ≡ pick at (x ∷ xs) m
    go_on (on st') = refl
    go_on (halt f) = refl

pub moves_some : (w : Words) (st : Stage) → none_left (to_come w) ≡ false → rest w st ≡ onto w (step st (next_of w))
unfolding rest onto
moves_some w st h = run_some st (here w) (to_come w) h

-- at the end of the text too, where it may not end
pub moves : (w : Words) (st : Stage) → ((at : Spot) → finish st at ≡ Err (refusal form at)) → step st cut ≡ halt form → rest w st ≡ onto w (step st (next_of w))
unfolding rest onto
moves w st f c = all (to_come w)
  where
    all : (xs : List Lexeme) → run st (here w) xs ≡ pick (here w) xs (step st (next xs))
    all [] = f (here w) ∙ sym (ap (pick (here w) []) c)
    all (x ∷ xs) = run_some st (here w) (x ∷ xs) refl

-- the same where the code found what the next word says
pub moves_by : {X : Type 0} (says : Lexeme → X) (does : X → Motion) (v : Words) (st : Stage) (x : Lexeme) (k : X) → ((at : Spot) → finish st at ≡ Err (refusal form at)) → does (says cut) ≡ halt form → ((y : Lexeme) → step st y ≡ does (says y)) → k ≡ says x → x ≡ next_of v → rest v st ≡ onto v (does k)
moves_by says does v st x k f c s e p = moves v st f (s cut ∙ c) ∙ ap (onto v) (s (next_of v) ∙ ap does (sym (e ∙ ap says p)))

-- a reader one word on
pub advanced : (v w : Words) (st : Stage) → to_come w ≡ later (to_come v) → here w ≡ past (next_of v) (here v) → onto v (on st) ≡ rest w st
unfolding rest onto
advanced v w st ws at = λ i. run st (sym at i) (sym ws i)

-- a wrong word is refused at its place
pub halted : (v : Words) (f : Fault) (y : Refusal) → y ≡ refusal f (here v) → onto v (halt f) ≡ Err y
unfolding onto
halted v f y h = sym (ap Err h)

-- a refusal handed on by `?`
pub fails : {X : Type 0} (w : Words) (o : Result Draft Refusal) (st : X → Stage) (x : Result X Refusal) (y f : Refusal) → x ≡ Err y → y ≡ f → o ≡ Err f → Leads w o st x
fails w o st x y f p q h = subst (Leads w o st) (sym (p ∙ ap Err q)) h

-- what leads on from an outcome leads on from an equal one
pub leads_from : {X : Type 0} (w : Words) (o o' : Result Draft Refusal) (st : X → Stage) (x : Result X Refusal) → o ≡ o' → Leads w o' st x → Leads w o st x
leads_from w o o' st x e h = subst (λ p. Leads w p st x) (sym e) h

-- a word that is no name is refused for what is wrong with it
pub no_name_halts : (st : List ℕ → Stage) (ns : List (List ℕ)) (most : ℕ) (e : NoName) → admit st ns most (telling (Err e)) ≡ halt (wrong_of e)
no_name_halts st ns most Held = refl
no_name_halts st ns most OtherForm = refl

-- a name's way into a list of names
module _ (ns : List (List ℕ)) (w : List ℕ) (most : ℕ) (st : Stage) where
  pub enter_taken : is_some (place ns w 0) ≡ true → enter ns w most st ≡ halt taken
  enter_taken h = cond-true (is_some (place ns w 0)) _ _ h

  pub enter_full : is_some (place ns w 0) ≡ false → ltb (length ns) most ≡ false → enter ns w most st ≡ halt limit
  enter_full h l = cond-false (is_some (place ns w 0)) _ _ h ∙ cond-false (ltb (length ns) most) _ _ l

  pub enter_new : is_some (place ns w 0) ≡ false → ltb (length ns) most ≡ true → enter ns w most st ≡ on st
  enter_new h l = cond-false (is_some (place ns w 0)) _ _ h ∙ cond-true (ltb (length ns) most) _ _ l

-- a line of names: it ends after a name, and goes on else
module _ (more done : List (List ℕ) → Stage) (upper : Bool) (most : ℕ) (l : LineOfNames more done upper most) (v : Words) (ns : List (List ℕ)) where
  names_step : rest v (more ns) ≡ onto v (naming_line more done upper most ns (next_of v))
  names_step = moves v (more ns) (l.mid ns) (l.steps ns cut) ∙ ap (onto v) (l.steps ns (next_of v))

  pub names_end : true ≡ ends_line (next_of v) → some ns ≡ true → rest v (more ns) ≡ onto v (on (done ns))
  names_end h s = names_step ∙ ap (onto v) (cond-true (ends_line (next_of v) && some ns) _ _ ((λ i. sym h i && s i)))

  pub names_first : ns ≡ [] → rest v (more ns) ≡ onto v (naming more ns most (declared upper (next_of v)))
  names_first e = names_step ∙ ap (onto v) (cond-false (ends_line (next_of v) && some ns) _ _ (ap (λ k. ends_line (next_of v) && some k) e ∙ no_more (ends_line (next_of v))))
    where
      no_more : (b : Bool) → (b && false) ≡ false
      no_more true = refl
      no_more false = refl

  pub names_more : false ≡ ends_line (next_of v) → rest v (more ns) ≡ onto v (naming more ns most (declared upper (next_of v)))
  names_more h = names_step ∙ ap (onto v) (cond-false (ends_line (next_of v) && some ns) _ _ (ap (λ b. b && some ns) (sym h)))
