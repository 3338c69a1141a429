-- A word, and a token, by what it is. Assumes nothing.
use Rattle.std.proofs.Common.{ℕ, Bool, List, ℤ, Bor}
use Rattle.words.specs.Lexemes.{Lexeme, name, reserved, number, sign, shift, bracket, other, feed, cut}
use Rattle.words.specs.declared.signs.Sign.{Sign}
use Rattle.words.specs.declared.tokens.Keyword.{Keyword}
use Rattle.words.specs.declared.tokens.Token.{Token}
use Rattle.words.specs.declared.tokens.Token.TheVariants as token

-- what holds of the words of each kind holds of every word
pub by_kind : (P : Lexeme → Type 0) → ((u : Bool) (w : List ℕ) → P (name u w)) → ((k : Keyword) → P (reserved k)) → ((z : ℤ) → P (number z)) → ((s : Sign) → P (sign s)) → ((b : Bool) → P (shift b)) → ((b : Bool) → P (bracket b)) → P other → P feed → P cut → (x : Lexeme) → P x
by_kind P n k z s h b o f c (name u w) = n u w
by_kind P n k z s h b o f c (reserved j) = k j
by_kind P n k z s h b o f c (number i) = z i
by_kind P n k z s h b o f c (sign t) = s t
by_kind P n k z s h b o f c (shift p) = h p
by_kind P n k z s h b o f c (bracket p) = b p
by_kind P n k z s h b o f c other = o
by_kind P n k z s h b o f c feed = f
by_kind P n k z s h b o f c cut = c

-- the same of tokens
pub by_token : (P : Token → Type 0) → ((a : Bor (List ℕ)) (u : Bool) (l w : ℕ) → P (token.Name a u l w)) → ((a : Bor (List ℕ)) (k : Keyword) (l w : ℕ) → P (token.Reserved a k l w)) → ((a : Bor (List ℕ)) (z : ℤ) (l w : ℕ) → P (token.Number a z l w)) → ((a : Bor (List ℕ)) (s : Sign) (l w : ℕ) → P (token.Sign a s l w)) → ((a : Bor (List ℕ)) (b : Bool) (l w : ℕ) → P (token.Shift a b l w)) → ((a : Bor (List ℕ)) (b : Bool) (l w : ℕ) → P (token.Bracket a b l w)) → ((a : Bor (List ℕ)) (l w : ℕ) → P (token.Other a l w)) → ((l w : ℕ) → P (token.LineEnd l w)) → ((l w : ℕ) → P (token.TextEnd l w)) → (t : Token) → P t
by_token P n k z s h b o f c (token.Name a u l w) = n a u l w
by_token P n k z s h b o f c (token.Reserved a j l w) = k a j l w
by_token P n k z s h b o f c (token.Number a i l w) = z a i l w
by_token P n k z s h b o f c (token.Sign a t l w) = s a t l w
by_token P n k z s h b o f c (token.Shift a p l w) = h a p l w
by_token P n k z s h b o f c (token.Bracket a p l w) = b a p l w
by_token P n k z s h b o f c (token.Other a l w) = o a l w
by_token P n k z s h b o f c (token.LineEnd l w) = f l w
by_token P n k z s h b o f c (token.TextEnd l w) = c l w
