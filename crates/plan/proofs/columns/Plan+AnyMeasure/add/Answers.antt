use Rattle.std.proofs.Common.{◌<◌, length, set, sym, ◌∙◌, arith, rules}
use Rattle.std.proofs.lemmas.Bool.{lt-ltb, true≢false}
use Rattle.words.specs.Tables.{texts}
use Rattle.words.proofs.Tabling.{added_more}
use Rattle.plan.specs.Drafts.{columns_of, paired}
use Rattle.plan.proofs.Pairing.{paired_long, paired_more}
use Rattle.plan.proofs.columns.Plan+AnyMeasure.add.Goals as goal

pub returns-then-is_ok-clause-columns : goal.returns-then-is_ok-clause-columns
unfolding columns_of
returns-then-is_ok-clause-columns c =
    let p = c.args.self.now in
    let few : length (texts p.titles) < 8 = omega (arith, c.requires, paired_long (texts p.titles) p.columns.places) in
    (λ i. paired ((c.add.ensures.names ∙ added_more (texts p.titles) c.args.name.now few) i) (set p.columns.places (c.len-place.ensures.value i) c.args.column))
    ∙ paired_more (texts p.titles) p.columns.places c.args.name.now c.args.column (search rules)

pub returns-else-is_ok-clause-columns : goal.returns-else-is_ok-clause-columns
unfolding columns_of
returns-else-is_ok-clause-columns c =
    let p = c.args.self.now in
    absurd (true≢false (sym (lt-ltb (length (texts p.titles)) 8 (omega (arith, c.requires, paired_long (texts p.titles) p.columns.places))) ∙ sym c.add.ensures.value ∙ sym c.is_ok.ensures.value ∙ c.if-is_ok.false))
