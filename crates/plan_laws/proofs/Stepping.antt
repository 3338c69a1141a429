-- What each word of a plan keeps, the stage that it leads to keeps. Assumes nothing.
use Rattle.std.proofs.Common.{◌≡◌, ℕ, ◌<◌, Bool, true, false, cond, ◌&&◌, ltb, List, [], ◌∷◌, ◌++◌, length, is_some, Some, None, Err, Option, Result, refl}
use Rattle.std.proofs.lemmas.Bool.{ltb-true}
use Rattle.text.specs.declared.refusal.Refusal.{Refusal}
use Rattle.words.specs.Lexemes.{Lexeme}
use Rattle.words.specs.Spots.{Spot}
use Rattle.words.specs.Tables.{place}
use Rattle.conditions.specs.Machine.{Seen, State, term, form, refusal}
use Rattle.conditions.specs.Machine as conditions
use Rattle.conditions.specs.Promises.{opened, unread}
use Rattle.plan.specs.Lines.{leading, kind_of, takes_field, following, ends_line, Naming, word, held, no_name, declared}
use Rattle.plan.specs.Drafts.{Head, Draft, names_of, column_names, with_column, no_fields}
use Rattle.plan.specs.Machine.{Stage, Motion, on, halt, step, start, rows, second, bases, line, measured, headed, asks, enter, admit, some, naming, naming_line, first_line, second_line, column_name, after_kind, measure, measured_at, measured_word, after_head, asking, whole, finish}
use Rattle.plan.specs.Machine as stages
use Rattle.any_measure.specs.declared.any.AnyMeasure.{AnyMeasure}
use Rattle.plan.specs.declared.words_of_plan.Leading.{Leading}
use Rattle.plan.specs.declared.words_of_plan.Leading.TheVariants as leads
use Rattle.plan.specs.declared.words_of_plan.Following.{Following}
use Rattle.plan.specs.declared.words_of_plan.Following.TheVariants as follow

-- what holds after a word that is not wrong
abbrev pub Moved : (Stage → Type 0) → Motion → Type 0
Moved Kept (on st) = Kept st
Moved Kept (halt f) = Unit {0}

-- the head of a column
abbrev pub head : List ℕ → AnyMeasure → Option ℕ → Head
head n m f = record { name = n; measure = m; field = f }

-- every word keeps it
pub record Keeps (Kept : Stage → Type 0) : Type 0 where
  pub first : Kept (rows [])
  pub row_name : (ns : List (List ℕ)) (w : List ℕ) → Kept (rows ns) → length ns < 8 → Kept (rows (ns ++ (w ∷ [])))
  pub rows_end : (ns : List (List ℕ)) → Kept (rows ns) → some ns ≡ true → Kept (second ns)
  pub base_line : (rs : List (List ℕ)) → Kept (second rs) → Kept (bases rs [])
  pub base_name : (rs ns : List (List ℕ)) (w : List ℕ) → Kept (bases rs ns) → length ns < 4 → Kept (bases rs (ns ++ (w ∷ [])))
  pub base_end : (rs ns : List (List ℕ)) → Kept (bases rs ns) → some ns ≡ true → Kept (line (record { rows = rs; base = ns; columns = [] }))
  pub title : (d : Draft) (w : List ℕ) → Kept (line d) → length (column_names d.columns) < 8 → Kept (stages.named d w)
  pub measures : (d : Draft) (n : List ℕ) (m : AnyMeasure) → Kept (stages.named d n) → Kept (measured d n m)
  pub counts : (d : Draft) (n : List ℕ) (m : AnyMeasure) → Kept (stages.named d n) → Kept (headed d (head n m None))
  pub measured_field : (d : Draft) (n : List ℕ) (m : AnyMeasure) (i : ℕ) → Kept (measured d n m) → Kept (headed d (head n m (Some i)))
  pub asked : (d : Draft) (h : Head) → Kept (headed d h) → Kept (asks d h unread (term (opened None [])))
  pub bare : (d : Draft) (h : Head) → Kept (headed d h) → Kept (line (with_column d h None no_fields))
  pub asks_on : (d : Draft) (h : Head) (σ : Seen) (st : State) (x : Lexeme) → Kept (asks d h σ st) → Moved Kept (asking d h (conditions.step (names_of d) σ st x))

module _ (Kept : Stage → Type 0) (k : Keeps Kept) where
  admit_kept : (next : List ℕ → Stage) (ns : List (List ℕ)) (most : ℕ) (n : Naming) → ((w : List ℕ) → length ns < most → Kept (next w)) → Moved Kept (admit next ns most n)
  admit_kept next ns most held h = tt
  admit_kept next ns most no_name h = tt
  admit_kept next ns most (word w) h = by_tests (is_some (place ns w 0)) (ltb (length ns) most) refl
    where
      by_tests : (a b : Bool) → ltb (length ns) most ≡ b → Moved Kept (cond a (halt conditions.taken) (cond b (on (next w)) (halt conditions.limit)))
      by_tests true b e = tt
      by_tests false true e = h w (ltb-true (length ns) most e)
      by_tests false false e = tt

  naming_kept : (more done : List (List ℕ) → Stage) (upper : Bool) (most : ℕ) (ns : List (List ℕ)) (x : Lexeme) → (some ns ≡ true → Kept (done ns)) → ((w : List ℕ) → length ns < most → Kept (more (ns ++ (w ∷ [])))) → Moved Kept (naming_line more done upper most ns x)
  naming_kept more done upper most ns x h m = by_end (ends_line x) ns h m
    where
      by_end : (b : Bool) (ms : List (List ℕ)) → (some ms ≡ true → Kept (done ms)) → ((w : List ℕ) → length ms < most → Kept (more (ms ++ (w ∷ [])))) → Moved Kept (cond (b && some ms) (on (done ms)) (naming more ms most (declared upper x)))
      by_end true [] h m = admit_kept (λ w. more ([] ++ (w ∷ []))) [] most (declared upper x) m
      by_end true (n ∷ ms) h m = h refl
      by_end false ms h m = admit_kept (λ w. more (ms ++ (w ∷ []))) ms most (declared upper x) m

  pub step_kept : (st : Stage) (x : Lexeme) → Kept st → Moved Kept (step st x)
  step_kept start x h = by_first (leading x)
    where
      by_first : (l : Option Leading) → Moved Kept (first_line l)
      by_first (Some leads.Rows) = k.first
      by_first (Some leads.Base) = tt
      by_first None = tt
  step_kept (rows ns) x h = naming_kept rows second false 8 ns x (k.rows_end ns h) (λ w l. k.row_name ns w h l)
  step_kept (second rs) x h = by_second (leading x)
    where
      by_second : (l : Option Leading) → Moved Kept (second_line rs l)
      by_second (Some leads.Rows) = tt
      by_second (Some leads.Base) = k.base_line rs h
      by_second None = tt
  step_kept (bases rs ns) x h = naming_kept (bases rs) (λ ms. line (record { rows = rs; base = ms; columns = [] })) true 4 ns x (k.base_end rs ns h) (λ w l. k.base_name rs ns w h l)
  step_kept (line d) x h = admit_kept (stages.named d) (column_names d.columns) 8 (declared false x) (λ w l. k.title d w h l)
  step_kept (stages.named d n) x h = by_kind (kind_of x)
    where
      by_field : (m : AnyMeasure) (b : Bool) → Kept (cond b (measured d n m) (headed d (head n m None)))
      by_field m true = k.measures d n m h
      by_field m false = k.counts d n m h

      by_kind : (o : Option AnyMeasure) → Moved Kept (measure d n o)
      by_kind None = tt
      by_kind (Some m) = by_field m (takes_field m)
  step_kept (measured d n m) x h = by_name (declared false x)
    where
      by_place : (o : Option ℕ) → Moved Kept (measured_at d n m o)
      by_place None = tt
      by_place (Some i) = k.measured_field d n m i h

      by_name : (w : Naming) → Moved Kept (measured_word d n m w)
      by_name (word w) = by_place (place d.rows w 0)
      by_name held = tt
      by_name no_name = tt
  step_kept (headed d g) x h = by_following (following x)
    where
      by_following : (f : Option Following) → Moved Kept (after_head d g f)
      by_following (Some follow.Where) = k.asked d g h
      by_following (Some follow.End) = k.bare d g h
      by_following None = tt
  step_kept (asks d g σ st) x h = k.asks_on d g σ st x h

-- at the end of the text: what holds of a whole plan and of a missing word holds at every stage
pub finishes : (P : Result Draft Refusal → Type 0) (at : Spot) (st : Stage) → ((d : Draft) → st ≡ line d → P (whole d d.columns at)) → P (Err (refusal form at)) → P (finish st at)
finishes P at (line d) w e = w d refl
finishes P at start w e = e
finishes P at (rows ns) w e = e
finishes P at (second rs) w e = e
finishes P at (bases rs ns) w e = e
finishes P at (stages.named d n) w e = e
finishes P at (measured d n k) w e = e
finishes P at (headed d h) w e = e
finishes P at (asks d h σ st) w e = e
