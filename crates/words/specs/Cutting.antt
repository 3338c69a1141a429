-- How a text is cut into words. Assumes nothing.
use Rattle.std.specs.Prelude.{ℕ, Bool, true, false, cond, List, [], ◌∷◌, ◌==◌, ◌||◌}
use Rattle.words.specs.Lexemes.{Lexeme, feed, cut, lexeme}
use Rattle.words.specs.Spots.{Spot, spot}
use Rattle.words.specs.declared.cursor.Words.{Words}

-- a space or a line feed
abbrev pub is_gap : ℕ → Bool
is_gap b = b == 32 || b == 10

-- the words from a line's beginning on, given its first word and those after it: none where the text ends there
abbrev pub line : List ℕ → List ℕ × List Lexeme → List Lexeme
line [] s = []
line (b ∷ bs) s = lexeme s.0 ∷ s.1

-- the bytes up to the next space, line feed or end of the text, and the words after them
abbrev pub spell : List ℕ → List ℕ × List Lexeme
spell [] = ([], [])
spell (b ∷ bs) = cond (b == 32) ([], lexeme (spell bs).0 ∷ (spell bs).1) (cond (b == 10) ([], feed ∷ line bs (spell bs)) (b ∷ (spell bs).0, (spell bs).1))

-- the words after a place where a word has ended
abbrev pub after_word : List ℕ → List Lexeme
after_word [] = []
after_word (b ∷ bs) = cond (b == 10) (feed ∷ line bs (spell bs)) (lexeme (spell bs).0 ∷ (spell bs).1)

-- the words of a text
unfoldable pub lexemes : List ℕ → List Lexeme
lexemes text = line text (spell text)

-- the words still to come, from a line's beginning (true) or after a word
unfoldable pub ahead : Bool → List ℕ → List Lexeme
ahead true bytes = lexemes bytes
ahead false bytes = after_word bytes

-- the words that a reader has still to come
abbrev pub to_come : Words → List Lexeme
to_come w = ahead (w.word == 1) w.rest.now

-- the place of the next word
abbrev pub here : Words → Spot
here w = spot w.line w.word

-- the next word; past the last the text is cut off
abbrev pub next : List Lexeme → Lexeme
next [] = cut
next (x ∷ xs) = x

-- the words after the next
abbrev pub later : List Lexeme → List Lexeme
later [] = []
later (x ∷ xs) = xs

-- no word is left, and no end of a line
abbrev pub none_left : List Lexeme → Bool
none_left [] = true
none_left (x ∷ xs) = false
