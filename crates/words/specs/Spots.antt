-- Places in a plan. Assumes nothing.
use Rattle.std.specs.Prelude.{ℕ, ◌+◌}
use Rattle.words.specs.Lexemes.{Lexeme, name, reserved, number, sign, shift, bracket, other, feed, cut}
use Rattle.words.specs.declared.tokens.Token.{Token}
use Rattle.words.specs.declared.tokens.Token.TheVariants as token

-- a place in a plan: the line, and the word in it, both counted from 1
pub record Spot : Type 0 where
  pub line : ℕ
  pub word : ℕ

-- the place of a word of a line
abbrev pub spot : ℕ → ℕ → Spot
spot l w = record { line = l; word = w }

-- the place that a token tells
abbrev pub token_spot : Token → Spot
token_spot (token.Name t upper line word) = spot line word
token_spot (token.Reserved t k line word) = spot line word
token_spot (token.Number t z line word) = spot line word
token_spot (token.Sign t s line word) = spot line word
token_spot (token.Shift t plus line word) = spot line word
token_spot (token.Bracket t opens line word) = spot line word
token_spot (token.Other t line word) = spot line word
token_spot (token.LineEnd line word) = spot line word
token_spot (token.TextEnd line word) = spot line word

-- the place after a word, after the end of a line, and at the end of the text
abbrev pub past : Lexeme → Spot → Spot
past (name u w) at = spot at.line (at.word + 1)
past (reserved k) at = spot at.line (at.word + 1)
past (number z) at = spot at.line (at.word + 1)
past (sign s) at = spot at.line (at.word + 1)
past (shift b) at = spot at.line (at.word + 1)
past (bracket b) at = spot at.line (at.word + 1)
past other at = spot at.line (at.word + 1)
past feed at = spot (at.line + 1) 1
past cut at = at
