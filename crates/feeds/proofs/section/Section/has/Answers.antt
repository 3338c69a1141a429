use Rattle.std.proofs.Common.{◌∙◌, w32, SFits, rules}
use Rattle.std.proofs.lemmas.Bool.{le-ltb}
use Rattle.std.proofs.lemmas.Int.{to_z-of_z}
use Rattle.feeds.specs.Sections.{same_number}
use Rattle.feeds.proofs.Kept.{hits_within, hits_past}
use Rattle.feeds.proofs.section.Section.has.Goals as goal

pub returns-then-self-width : goal.returns-then-self-width
returns-then-self-width g c =
    let s = c.args.self.now in
    let f : SFits w32 c.value_at.result = search rules in
    let h : SFits w32 s.value = search rules in
    c.is_same.ensures ∙ (λ i. same_number ((to_z-of_z w32 c.value_at.result f ∙ c.value_at.ensures) i) (to_z-of_z w32 s.value h i))
    ∙ hits_within s.field c.args.width s.value c.args.row.now c.if-self-width.true

pub returns-else-self-width : goal.returns-else-self-width
returns-else-self-width g c =
    let s = c.args.self.now in
    le-ltb s.field c.args.width c.if-self-width.false
    ∙ hits_past s.field c.args.width s.value c.args.row.now c.if-self-width.false
