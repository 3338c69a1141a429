use Rattle.std.proofs.Common.{length, sym, ap, arith}
use Rattle.words.specs.Cutting.{to_come}
use Rattle.conditions.specs.Machine.{run}
use Rattle.conditions.specs.Promises.{rest, onto, seen_by}
use Rattle.conditions.proofs.Moves.{later_shorter}
use Rattle.conditions.proofs.reader.Reader.advance.Goals as goal

pub returns : goal.returns
unfolding rest onto
returns c =
    let e = ap length c.advance.ensures.words in
    record {
      on = record { on = omega (arith, e, later_shorter (to_come c.args.self.now.words)); more = omega arith; few = λ h. h };
      words = c.advance.ensures.words;
      goes = λ e st. (λ i. run e (seen_by c.args.self.now) st (sym c.advance.ensures.place i) (sym c.advance.ensures.words i));
    }
