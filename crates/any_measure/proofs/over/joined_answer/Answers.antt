-- The list joined in order is one grouping of it, and answers its plain aggregate.
use Rattle.std.proofs.Common.{length, ap, ◌∙◌, arith}
use Rattle.std.proofs.lemmas.Bool.{and_parts, leb-true}
use Rattle.any_measure.specs.Chosen.{chosen}
use Rattle.any_measure.proofs.Plainly.{list_is_plain}
use Rattle.any_measure.proofs.over.joined_answer.Goals as goal

pub overflow_cast-values : goal.overflow_cast-values
overflow_cast-values c = omega (arith, leb-true (length c.args.values.now) 1000000 (and_parts _ _ c.requires).0)

pub returns : goal.returns
returns c =
    c.answer.ensures ∙ ap (λ a. (chosen c.args.kind).answer a (length c.args.values.now)) c.joined.ensures ∙ list_is_plain c.args.kind c.args.values.now c.requires
