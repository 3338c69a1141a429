-- The direct scan: what a column answers for a base row over a list of rows. Assumes nothing.
use Rattle.std.specs.Prelude.{◌≡◌, ℕ, zero, suc, ◌+◌, ◌≤◌, Bool, true, false, cond, ◌&&◌, List, [], ◌∷◌, map, length, take, ℤ, pos, Some, None, Ok, Err, fold, filter, Option, Result, ◌==◌, nat_lt, slice_index_or}
use Rattle.std.specs.Borrow.{Bor}
use Rattle.std.specs.List.{list_all}
use Rattle.measures.specs.Values.{all_row_values, most_rows}
use Rattle.measures.specs.Meaning.{Meaning}
use Rattle.text.specs.declared.refusal.Refusal.{Refusal}
use Rattle.text.specs.declared.refusal.Refusal.TheVariants.{NotARow, TooManyRows, NoSuchColumn, NotABaseRow}
use Rattle.words.specs.Tables.{texts}
use Rattle.conditions.specs.Postfix.{asked, trees}
use Rattle.conditions.specs.Meaning.{says}
use Rattle.plan.specs.declared.plan.Column.{Column}
use Rattle.plan.specs.declared.plan.Plan.{Plan}
use Rattle.scan.specs.declared.found.Gathered.{Gathered}
use Rattle.scan.specs.declared.found.Scanned.{Scanned}

-- the rows of a list of lent rows
abbrev pub rows_of : List (Bor (List ℤ)) → List (List ℤ)
rows_of rows = map (λ (row : Bor (List ℤ)). row.now) rows

-- a row of width w: as many values, each a row value
abbrev pub is_row : ℕ → List ℤ → Bool
is_row w row = length row == w && all_row_values row

-- what a column measures in a row: nothing, or the value of its measured field
abbrev pub measured : Option ℕ → List ℤ → List ℤ
measured None row = []
measured (Some f) row = slice_index_or row f (pos 0) ∷ []

-- whether a row meets the condition of a column for a base row
abbrev pub meets : {M : Type 0} → Column M → List ℤ → List ℤ → Bool
meets c base row = says (asked (trees c.condition)) row base

-- the rows that meet it
abbrev pub meeting : {M : Type 0} → Column M → List ℤ → List (List ℤ) → List (List ℤ)
meeting c base rows = filter (meets c base) rows

-- the one-row values of some rows, joined from the first on
abbrev pub joined : {V A : Type 0} → Meaning V A → Option ℕ → List (List ℤ) → V
joined m f rows = fold (λ a row. m.join a (m.one (measured f row))) m.none rows

-- what is answered over the rows that meet the condition, and how many these are
abbrev pub answer_over : {M V A : Type 0} → (M → Meaning V A) → Column M → List ℤ → List (List ℤ) → Scanned A
answer_over meaning c base rows =
    let some = meeting c base rows in
    let m = meaning c.measure in
    record { answer = m.answer (joined m c.field some) (length some); rows = length some }

-- what some rows come to: the join of their values, and how many they are
abbrev pub gathered : {V A : Type 0} → Meaning V A → Option ℕ → List (List ℤ) → Gathered V
gathered m f rows = record { value = joined m f rows; rows = length rows }

-- what one pass over rows of width w gives: nothing where one is no such row, or what those that meet the condition come to
abbrev pub Gathers : {M V A : Type 0} → Meaning V A → Column M → ℕ → List ℤ → List (List ℤ) → Option (Gathered V) → Type 0
Gathers m c w base rows None = list_all (is_row w) rows ≡ false
Gathers m c w base rows (Some g) = (list_all (is_row w) rows ≡ true) × (g ≡ gathered m c.field (meeting c base rows)) × (g.rows ≤ length rows)

-- one row more, if it meets the condition
abbrev pub with_row : {M V A : Type 0} → Meaning V A → Column M → List ℤ → Gathered V → List ℤ → Gathered V
with_row m c base g row = cond (meets c base row) (record { value = m.join g.value (m.one (measured c.field row)); rows = g.rows + 1 }) g

-- the scan by a column, of rows of width w: 6 where one is no such row, then 9 where they are too many
abbrev pub scanned_by : {M V A : Type 0} → (M → Meaning V A) → Column M → ℕ → List (List ℤ) → List ℤ → Result (Scanned A) Refusal
scanned_by meaning c w rows base =
    cond (list_all (is_row w) rows) (cond (nat_lt most_rows (length rows)) (Err TooManyRows) (Ok (answer_over meaning c base rows))) (Err NotARow)

-- the column of a number
abbrev pub column_at : {X : Type 0} → List X → ℕ → Option X
column_at [] c = None
column_at (x ∷ xs) zero = Some x
column_at (x ∷ xs) (suc c) = column_at xs c

-- the columns of a plan, as many as have a name
abbrev pub columns : {M : Type 0} → Plan M → List (Column M)
columns p = take (length (texts p.titles)) p.columns.places

-- the answer of a column that is there, for a base row of width w
abbrev pub answered : {M V A : Type 0} → (M → Meaning V A) → ℕ → List ℤ → List (List ℤ) → Option (Column M) → Result (Scanned A) Refusal
answered meaning w base rows None = Err NoSuchColumn
answered meaning w base rows (Some c) = cond (is_row w base) (Ok (answer_over meaning c base rows)) (Err NotABaseRow)

-- the direct scan, its refusals in their order: a row that is none, too many rows, no such column, no base row
abbrev pub scanned : {M V A : Type 0} → (M → Meaning V A) → Plan M → List (List ℤ) → List ℤ → ℕ → Result (Scanned A) Refusal
scanned meaning p rows base c =
    cond (list_all (is_row (length (texts p.names.rows))) rows)
    (cond (nat_lt most_rows (length rows))
    (Err TooManyRows)
    (answered meaning (length (texts p.names.base)) base rows (column_at (columns p) c)))
    (Err NotARow)
