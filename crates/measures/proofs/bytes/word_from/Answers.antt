-- The number is taken apart byte by byte, and no byte is left.
use Rattle.std.proofs.Common.{◌≡◌, drop, ap, arith}
use Rattle.std.proofs.lemmas.List.{drop_all}
use Rattle.measures.specs.Bytes.{word_of}
use Rattle.measures.specs.Words.{word_of_drop}
use Rattle.measures.proofs.bytes.word_from.Goals as goal

pub returns : goal.returns
returns c =
    let bs = c.args.bytes.now in
    let end : word_of (drop 8 bs) ≡ 0 = ap word_of (drop_all 8 bs (omega arith)) in
    omega (arith, end, word_of_drop bs 0, word_of_drop bs 1, word_of_drop bs 2, word_of_drop bs 3, word_of_drop bs 4, word_of_drop bs 5, word_of_drop bs 6, word_of_drop bs 7)
