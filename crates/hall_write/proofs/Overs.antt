-- Writing over a buffer, one part after another.
use Rattle.std.proofs.Common.{◌≡◌, ℕ, ◌+◌, ◌-◌, ◌/◌, ◌%◌, ◌≤◌, List, [], ◌∷◌, ◌++◌, length, take, drop, sym, refl, ap, ◌∙◌, subst, arith}
use borrow.Rule.Slice.PartMut.{put_mid}
use Rattle.std.proofs.lemmas.List.{append_assoc, length-append, length-drop, length-take-le, take_at, drop_at, drop-drop, take-append-drop, take_all}
use Rattle.std.proofs.lemmas.Slice.{put_mid-paste}
use Rattle.measures.specs.Bytes.{bytes_of}
use Rattle.hall_write.specs.declared.put.Out.{Out}
use Rattle.hall_write.specs.Over.{over, HasRoom, Puts}

-- nothing is written
pub over_none : (at : ℕ) (old : List ℕ) → over at [] old ≡ old
unfolding over
over_none at old = ap (λ n. take at old ++ drop n old) e ∙ take-append-drop at old
  where
    e : at + 0 ≡ at
    e = omega arith

-- a buffer keeps its length
pub length_over : (at : ℕ) (bs old : List ℕ) → at + length bs ≤ length old → length (over at bs old) ≡ length old
unfolding over
length_over at bs old h =
    let a = length-append (take at old) (bs ++ drop (at + length bs) old) in
    let b = length-append bs (drop (at + length bs) old) in
    let c = length-take-le at old (omega arith) in
    let d = length-drop (at + length bs) old in
    omega arith

-- one part and the next are one
pub over_over : (at : ℕ) (xs bs old : List ℕ) → at + length xs + length bs ≤ length old → over (at + length xs) bs (over at xs old) ≡ over at (xs ++ bs) old
unfolding over
over_over at xs bs old h =
    let c = length-take-le at old (omega arith) in
    let front = take at old ++ xs in
    let len : length front ≡ at + length xs = length-append (take at old) xs ∙ ap (λ n. n + length xs) c in
    let rest = drop (at + length xs) old in
    let whole : take at old ++ (xs ++ rest) ≡ front ++ rest = sym (append_assoc (take at old) xs rest) in
    let t : take (at + length xs) (take at old ++ (xs ++ rest)) ≡ front = ap (take (at + length xs)) whole ∙ take_at front rest (at + length xs) len in
    let d : drop (at + length xs + length bs) (take at old ++ (xs ++ rest)) ≡ drop (at + length (xs ++ bs)) old =
    ap (drop (at + length xs + length bs)) whole
    ∙ sym (drop-drop (length bs) (at + length xs) (front ++ rest))
    ∙ ap (drop (length bs)) (drop_at front rest (at + length xs) len)
    ∙ drop-drop (length bs) (at + length xs) old
    ∙ ap (λ n. drop n old) (let l = length-append xs bs in let e : at + length xs + length bs ≡ at + length (xs ++ bs) = omega arith in e) in
    ap (λ l. l ++ (bs ++ drop (at + length xs + length bs) (take at old ++ (xs ++ rest)))) t
    ∙ ap (λ l. front ++ (bs ++ l)) d
    ∙ append_assoc (take at old) xs (bs ++ drop (at + length (xs ++ bs)) old)
    ∙ ap (λ l. take at old ++ l) (sym (append_assoc xs bs (drop (at + length (xs ++ bs)) old)))

-- a copy into a part of the buffer
pub over_put : (at : ℕ) (bs old ys : List ℕ) → ys ≡ bs → put_mid at (at + length bs - at) old ys ≡ over at bs old
unfolding over
over_put at bs old ys e =
    let n : length bs ≡ at + length bs - at = omega arith in
    put_mid-paste at (at + length bs - at) old ys bs (length bs) e n refl
    ∙ append_assoc (take at old) (take (length bs) bs) (drop (at + length bs) old)
    ∙ ap (λ l. take at old ++ (l ++ drop (at + length bs) old)) (take_all (length bs) bs (omega arith))

-- from the front on
pub over_front : (bs old : List ℕ) → over 0 bs old ≡ bs ++ drop (length bs) old
unfolding over
over_front bs old = ap (λ n. bs ++ drop n old) zero_on
  where
    zero_on : 0 + length bs ≡ length bs
    zero_on = omega arith

-- nothing was put
pub puts_none : (out : Out) → Puts [] out out
puts_none out = record { same = refl; is = sym (over_none out.end out.buffer.now); ends = omega arith }

-- one part and the next
pub puts_more : {xs ys : List ℕ} {a b c : Out} → Puts xs a b → Puts ys b c → HasRoom (xs ++ ys) a → Puts (xs ++ ys) a c
puts_more {xs} {ys} {a} {b} {c} p q room =
    let l = length-append xs ys in
    let e = p.ends in
    let f = q.ends in
    record {
      same = q.same ∙ p.same;
      is = q.is ∙ ap (over b.end ys) p.is ∙ ap (λ n. over n ys (over a.end xs a.buffer.now)) e ∙ over_over a.end xs ys a.buffer.now (omega arith);
      ends = omega arith;
    }

-- after one part there is room for the next
pub room_more : {xs : List ℕ} (ys : List ℕ) {a b : Out} → Puts xs a b → HasRoom (xs ++ ys) a → HasRoom ys b
room_more {xs} ys {a} {b} p room =
    let l = length-append xs ys in
    let e = p.ends in
    let n = ap length p.is ∙ length_over a.end xs a.buffer.now (omega arith) in
    omega arith

pub room_first : (xs ys : List ℕ) (a : Out) → HasRoom (xs ++ ys) a → HasRoom xs a
room_first xs ys a room = let l = length-append xs ys in omega arith

-- the same bytes, said otherwise
pub puts_as : {xs ys : List ℕ} {a b : Out} → xs ≡ ys → Puts xs a b → Puts ys a b
puts_as {xs} {ys} {a} {b} e p = subst (λ l. Puts l a b) e p

-- of the whole some was put, and the rest is left
pub record Doing (whole rest : List ℕ) (start out : Out) : Type 0 where
  pub done : List ℕ
  pub puts : Puts done start out
  pub adds : done ++ rest ≡ whole

pub doing_all : (whole : List ℕ) (out : Out) → Doing whole whole out out
doing_all whole out = record { done = []; puts = puts_none out; adds = refl }

-- there is room for the next part
pub doing_room : {whole rest : List ℕ} {start out : Out} → Doing whole rest start out → (part rest' : List ℕ) → rest ≡ part ++ rest' → HasRoom whole start → HasRoom part out
doing_room {whole} {rest} {start} {out} d part rest' e room =
    room_first part rest' out (subst (λ l. HasRoom l out) e (room_more rest d.puts (subst (λ l. HasRoom l start) (sym d.adds) room)))

pub doing_more : {whole rest : List ℕ} {start out : Out} → Doing whole rest start out → (part rest' : List ℕ) → rest ≡ part ++ rest' → HasRoom whole start → (next : Out) → Puts part out next → Doing whole rest' start next
doing_more {whole} {rest} {start} {out} d part rest' e room next p =
    let adds : (d.done ++ part) ++ rest' ≡ whole = append_assoc d.done part rest' ∙ ap (λ l. d.done ++ l) (sym e) ∙ d.adds in
    record {
      done = d.done ++ part;
      puts = puts_more d.puts p (room_first (d.done ++ part) rest' start (subst (λ l. HasRoom l start) (sym adds) room));
      adds = adds;
    }

-- four bytes as the code gives them
pub le_four : (n : ℕ) → (n % 256) ∷ (n / 256 % 256) ∷ (n / 65536 % 256) ∷ (n / 16777216 % 256) ∷ [] ≡ bytes_of 4 n
le_four n =
    let a : n / 65536 ≡ n / 256 / 256 = omega arith in
    let b : n / 16777216 ≡ n / 256 / 256 / 256 = omega arith in
    cc
