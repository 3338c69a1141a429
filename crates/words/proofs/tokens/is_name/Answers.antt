use Rattle.std.proofs.Common.{◌&&◌, refl, ap, ◌∙◌, rules}
use Rattle.std.proofs.lemmas.Iterator.{YieldsList-from_slice}
use Rattle.std.proofs.lemmas.Iterator.Search.{all_from_yields_List}
use Rattle.std.specs.List.{list_all}
use Rattle.words.proofs.tokens.is_name.Goals as goal

pub returns-then-is_name_long : goal.returns-then-is_name_long
returns-then-is_name_long g c = λ test is.
    all_from_yields_List test _ _ _ c.all.ensures.ran (YieldsList-from_slice c.args.text.now cc) (λ x b q k. (search rules, is x.now b (record { shown = x; shows = refl; says = record { met = search rules } })))
    ∙ ap (λ t. t && list_all test c.args.text.now) c.if-is_name_long.ensures
