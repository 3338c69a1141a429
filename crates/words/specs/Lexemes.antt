-- What the words of a plan are. Assumes nothing.
use Rattle.std.specs.Prelude.{ℕ, Bool, true, false, cond, ◌&&◌, List, length, ℤ, Some, None, codes, Option, ◌==◌, nat_le, nat_lt, slice_index_or, nat_eq}
use Rattle.std.specs.Char.{is_ascii_lowercase, is_ascii_uppercase}
use Rattle.std.specs.List.{list_all}
use Rattle.std.specs.Cmp.Lexicographic.{pointwise}
use Rattle.text.specs.Numbers as numbers
use Rattle.words.specs.declared.signs.Mark.{Mark}
use Rattle.words.specs.declared.signs.Mark.TheVariants as marks
use Rattle.words.specs.declared.signs.Sign.{Sign}
use Rattle.words.specs.declared.signs.Sign.TheVariants.{Equal, Unequal, Less, AtMost, Greater, AtLeast}
use Rattle.words.specs.declared.tokens.Keyword.{Keyword}
use Rattle.words.specs.declared.tokens.Keyword.TheVariants.{Rows, Base, Where, And, Or, Not, Count, Sum, Least, Greatest, Mean}
use Rattle.words.specs.declared.tokens.Token.{Token}
use Rattle.words.specs.declared.tokens.Token.TheVariants as token

-- what a word is, without its place: a name (in upper case or not), a keyword, a number, a sign of comparison, `+`
-- (true) or `-`, an opening (true) or closing bracket, or none of these; or the end of the line, or of the text
pub data Lexeme : Type 0 where
  name : Bool → List ℕ → Lexeme
  reserved : Keyword → Lexeme
  number : ℤ → Lexeme
  sign : Sign → Lexeme
  shift : Bool → Lexeme
  bracket : Bool → Lexeme
  other : Lexeme
  feed : Lexeme
  cut : Lexeme

-- what a token is, without its place
abbrev pub seen : Token → Lexeme
seen (token.Name t upper line word) = name upper t.now
seen (token.Reserved t k line word) = reserved k
seen (token.Number t z line word) = number z
seen (token.Sign t s line word) = sign s
seen (token.Shift t plus line word) = shift plus
seen (token.Bracket t opens line word) = bracket opens
seen (token.Other t line word) = other
seen (token.LineEnd line word) = feed
seen (token.TextEnd line word) = cut

-- the mark that one or two characters are, if they are one; the second is a space where there is one only
abbrev pub mark : ℕ → ℕ → Option Mark
mark a b =
    cond (a == 61) (cond (b == 32) (Some (marks.Sign Equal)) None)
    (cond (a == 60) (cond (b == 32) (Some (marks.Sign Less)) (cond (b == 62) (Some (marks.Sign Unequal)) (cond (b == 61) (Some (marks.Sign AtMost)) None)))
    (cond (a == 62) (cond (b == 32) (Some (marks.Sign Greater)) (cond (b == 61) (Some (marks.Sign AtLeast)) None))
    (cond (a == 43) (cond (b == 32) (Some (marks.Shift true)) None)
    (cond (a == 45) (cond (b == 32) (Some (marks.Shift false)) None)
    (cond (a == 40) (cond (b == 32) (Some (marks.Bracket true)) None)
    (cond (a == 41) (cond (b == 32) (Some (marks.Bracket false)) None) None))))))

-- one to eight bytes
abbrev pub name_long : List ℕ → Bool
name_long w = nat_lt 0 (length w) && nat_le (length w) 8

-- one to eight bytes, each of which passes a test
abbrev pub name_of : (ℕ → Bool) → List ℕ → Bool
name_of test w = name_long w && list_all test w

-- one to eight lower-case letters
abbrev pub lower_name : List ℕ → Bool
lower_name w = name_of is_ascii_lowercase w

-- one to eight upper-case letters
abbrev pub upper_name : List ℕ → Bool
upper_name w = name_of is_ascii_uppercase w

-- two texts are the same: as long, and byte by byte
abbrev pub same : List ℕ → List ℕ → Bool
same = pointwise nat_eq

-- the keyword that a word is, if it is one
abbrev pub keyword_of : List ℕ → Option Keyword
keyword_of w =
    cond (same w (codes "rows")) (Some Rows)
    (cond (same w (codes "base")) (Some Base)
    (cond (same w (codes "where")) (Some Where)
    (cond (same w (codes "and")) (Some And)
    (cond (same w (codes "or")) (Some Or)
    (cond (same w (codes "not")) (Some Not)
    (cond (same w (codes "count")) (Some Count)
    (cond (same w (codes "sum")) (Some Sum)
    (cond (same w (codes "least")) (Some Least)
    (cond (same w (codes "greatest")) (Some Greatest)
    (cond (same w (codes "mean")) (Some Mean) None))))))))))

-- a word that is no keyword
abbrev pub named : List ℕ → Lexeme
named w = cond (lower_name w) (name false w) (cond (upper_name w) (name true w) other)

-- a keyword before all else
abbrev pub keyed : Option Keyword → Lexeme → Lexeme
keyed (Some k) x = reserved k
keyed None x = x

-- a word that is no number and no mark
abbrev pub letters : List ℕ → Lexeme
letters w = keyed (keyword_of w) (named w)

-- the mark that a word is, if it is one
abbrev pub mark_in : List ℕ → Option Mark
mark_in w = cond (nat_lt 2 (length w)) None (mark (slice_index_or w 0 32) (slice_index_or w 1 32))

-- a mark before letters
abbrev pub marked : Option Mark → List ℕ → Lexeme
marked (Some (marks.Sign s)) w = sign s
marked (Some (marks.Shift b)) w = shift b
marked (Some (marks.Bracket b)) w = bracket b
marked None w = letters w

-- a number before all else
abbrev pub numbered : Option ℤ → Lexeme → Lexeme
numbered (Some z) x = number z
numbered None x = x

-- what a word is
abbrev pub lexeme : List ℕ → Lexeme
lexeme w = numbered (numbers.number w) (marked (mark_in w) w)
