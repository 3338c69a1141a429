use Rattle.std.proofs.Common.{◌≡◌, List, ℕ, Bor, length, min, take, ap, ◌∙◌, arith, rules}
use Rattle.std.specs.List.{position_from}
use Rattle.words.specs.Lexemes.{same}
use Rattle.words.specs.Tables.{texts}
use Rattle.words.proofs.Tabling.{long, place_read}
use Rattle.words.proofs.names.Table.find.Goals as goal

pub returns-clause-value : goal.returns-clause-value
unfolding texts
returns-clause-value c =
    let eight : length c.args.self.now.words ≡ 8 = search rules in
    let n : c.len.result ≡ min c.args.self.now.used 8 = omega (arith, eight, c.len.ensures.value, long c.args.self.now.words (min c.args.self.now.used 8)) in
    let kept : c.map.result ≡ c.place_of.result = search rules in
    kept ∙ c.place_of.ensures.value ∙ ap (λ k. position_from (λ (x : Bor (List ℕ)). same x.now c.args.word.now) 0 (take k c.args.self.now.words)) n ∙ place_read (take (min c.args.self.now.used 8) c.args.self.now.words) c.args.word.now 0
