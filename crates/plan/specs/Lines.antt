-- What the words of a plan are, outside conditions. Assumes nothing.
use Rattle.std.specs.Prelude.{ℕ, Bool, true, false, cond, List, Some, None, Ok, Err, Option, Result}
use Rattle.std.specs.Borrow.{Bor}
use Rattle.words.specs.Lexemes.{Lexeme, name, reserved, number, sign, shift, bracket, other, feed, cut}
use Rattle.words.specs.declared.tokens.Keyword.{Keyword}
use Rattle.words.specs.declared.tokens.Keyword.TheVariants as keywords
use Rattle.conditions.specs.Machine.{Fault, form, taken}
use Rattle.any_measure.specs.declared.any.AnyMeasure.{AnyMeasure}
use Rattle.any_measure.specs.declared.any.AnyMeasure.TheVariants.{Count, Sum, Least, Greatest, Mean}
use Rattle.plan.specs.declared.words_of_plan.Leading.{Leading}
use Rattle.plan.specs.declared.words_of_plan.Leading.TheVariants as leads
use Rattle.plan.specs.declared.words_of_plan.Following.{Following}
use Rattle.plan.specs.declared.words_of_plan.Following.TheVariants as follow
use Rattle.plan.specs.declared.words_of_plan.NoName.{NoName}
use Rattle.plan.specs.declared.words_of_plan.NoName.TheVariants as no_names

-- the keywords that begin a line
abbrev pub leading_keyword : Keyword → Option Leading
leading_keyword keywords.Rows = Some leads.Rows
leading_keyword keywords.Base = Some leads.Base
leading_keyword keywords.Where = None
leading_keyword keywords.And = None
leading_keyword keywords.Or = None
leading_keyword keywords.Not = None
leading_keyword keywords.Count = None
leading_keyword keywords.Sum = None
leading_keyword keywords.Least = None
leading_keyword keywords.Greatest = None
leading_keyword keywords.Mean = None

-- how a word begins a line
abbrev pub leading : Lexeme → Option Leading
leading (reserved k) = leading_keyword k
leading (name u w) = None
leading (number z) = None
leading (sign s) = None
leading (shift b) = None
leading (bracket b) = None
leading other = None
leading feed = None
leading cut = None

-- the keywords that are measures
abbrev pub kind_keyword : Keyword → Option AnyMeasure
kind_keyword keywords.Count = Some Count
kind_keyword keywords.Sum = Some Sum
kind_keyword keywords.Least = Some Least
kind_keyword keywords.Greatest = Some Greatest
kind_keyword keywords.Mean = Some Mean
kind_keyword keywords.Rows = None
kind_keyword keywords.Base = None
kind_keyword keywords.Where = None
kind_keyword keywords.And = None
kind_keyword keywords.Or = None
kind_keyword keywords.Not = None

-- the measure that a word is
abbrev pub kind_of : Lexeme → Option AnyMeasure
kind_of (reserved k) = kind_keyword k
kind_of (name u w) = None
kind_of (number z) = None
kind_of (sign s) = None
kind_of (shift b) = None
kind_of (bracket b) = None
kind_of other = None
kind_of feed = None
kind_of cut = None

-- a measured field follows every measure but `count`
abbrev pub takes_field : AnyMeasure → Bool
takes_field Count = false
takes_field Sum = true
takes_field Least = true
takes_field Greatest = true
takes_field Mean = true

-- the keyword before a condition
abbrev pub following_keyword : Keyword → Option Following
following_keyword keywords.Where = Some follow.Where
following_keyword keywords.Rows = None
following_keyword keywords.Base = None
following_keyword keywords.And = None
following_keyword keywords.Or = None
following_keyword keywords.Not = None
following_keyword keywords.Count = None
following_keyword keywords.Sum = None
following_keyword keywords.Least = None
following_keyword keywords.Greatest = None
following_keyword keywords.Mean = None

-- how a word follows a column's measure
abbrev pub following : Lexeme → Option Following
following (reserved k) = following_keyword k
following feed = Some follow.End
following (name u w) = None
following (number z) = None
following (sign s) = None
following (shift b) = None
following (bracket b) = None
following other = None
following cut = None

-- a line ends
abbrev pub ends_line : Lexeme → Bool
ends_line feed = true
ends_line (reserved k) = false
ends_line (name u w) = false
ends_line (number z) = false
ends_line (sign s) = false
ends_line (shift b) = false
ends_line (bracket b) = false
ends_line other = false
ends_line cut = false

-- a word that is to be a name: a name, a reserved word, or none of these
pub data Naming : Type 0 where
  word : List ℕ → Naming
  held : Naming
  no_name : Naming

-- two truths are the same
abbrev pub same_case : Bool → Bool → Bool
same_case true true = true
same_case true false = false
same_case false true = false
same_case false false = true

-- a word where a name in upper case (true) or lower case is to stand; a reserved word has the form of one in lower case
abbrev pub declared : Bool → Lexeme → Naming
declared upper (name u w) = cond (same_case upper u) (word w) no_name
declared upper (reserved k) = cond upper no_name held
declared upper (number z) = no_name
declared upper (sign s) = no_name
declared upper (shift b) = no_name
declared upper (bracket b) = no_name
declared upper other = no_name
declared upper feed = no_name
declared upper cut = no_name

-- what the code tells of such a word
abbrev pub telling : Result (Bor (List ℕ)) NoName → Naming
telling (Ok t) = word t.now
telling (Err no_names.Held) = held
telling (Err no_names.OtherForm) = no_name

-- what is wrong with a word that is no name, where one is to be declared
abbrev pub wrong_of : NoName → Fault
wrong_of no_names.Held = taken
wrong_of no_names.OtherForm = form
