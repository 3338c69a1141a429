use Rattle.std.proofs.Common.{◌≡◌, ℕ, ◌<◌, ◌≤◌, min, List, [], ◌∷◌, map, length, take, sym, ap, ◌∙◌, arith, Bor, rules}
use Rattle.std.proofs.lemmas.List.{map-append}
use Rattle.std.proofs.lemmas.Bool.{lt-ltb, le-ltb, leb-true, leb-false}
use Rattle.words.specs.Tables.{texts}
use Rattle.words.proofs.Tabling.{long, pushed, added_full, added_more}
use Rattle.words.proofs.names.Table.add.Goals as goal

pub returns-then-is_full : goal.returns-then-is_full
unfolding texts
returns-then-is_full c =
    let eight : length c.args.self.now.words ≡ 8 = search rules in
    let full : 8 ≤ c.args.self.now.used = leb-true 8 _ (sym c.if-is_full.ensures) in
    let all = long c.args.self.now.words (min c.args.self.now.used 8) in
    record {
      names = sym (added_full (texts c.args.self.now) c.args.word.now (omega (arith, all, eight, full)));
      value = sym (le-ltb _ 8 (omega (arith, all, eight, full)));
    }

pub returns : goal.returns
unfolding texts
returns c =
    let eight : length c.args.self.now.words ≡ 8 = search rules in
    let room : c.args.self.now.used < 8 = leb-false 8 _ (sym c.if-is_full.ensures) in
    let all = long c.args.self.now.words (min c.args.self.now.used 8) in
    record {
      names = ap (map (λ (w : Bor (List ℕ)). w.now)) (pushed c.args.self.now.words c.args.self.now.used c.args.word (omega (arith, eight, room)) room) ∙ map-append (λ (w : Bor (List ℕ)). w.now) (take (min c.args.self.now.used 8) c.args.self.now.words) (c.args.word ∷ []) ∙ sym (added_more (texts c.args.self.now) c.args.word.now (omega (arith, all, eight, room)));
      value = sym (lt-ltb _ 8 (omega (arith, all, eight, room)));
    }
