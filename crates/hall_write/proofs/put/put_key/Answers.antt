-- One value at a time.
use Rattle.std.proofs.Common.{◌≡◌, get_or, take, count_ones, pos, sym, ap, ◌∙◌, subst, w32, SFits, rules}
use Rattle.std.specs.List.{flat_map}
use Rattle.std.proofs.lemmas.Int.{to_z-of_z}
use Rattle.hall_file.specs.Written.{int_bytes, key_bytes}
use Rattle.hall_write.specs.Over.{HasRoom}
use Rattle.hall_write.proofs.Overs.{puts_as, le_four, doing_all, doing_room, doing_more}
use Rattle.hall_write.proofs.Lengths.{values_at, key_values}
use Rattle.hall_write.proofs.put.put_key.Goals as goal

pub loop-value-init : goal.loop-value-init
loop-value-init c = doing_all _ c.args.out.now

pub put-requires : goal.put-requires
put-requires c =
    let ks = take c.key_width.result c.args.key.now in
    let z = get_or ks c.loop-value.value-index (pos 0) in
    let f : SFits w32 z = search rules in
    let e : c.to_le_bytes.result ≡ int_bytes z = c.to_le_bytes.ensures ∙ le_four _ ∙ ap int_bytes (to_z-of_z w32 z f) in
    let all : flat_map int_bytes ks ≡ key_bytes (count_ones c.args.mask) c.args.key.now = key_values _ (count_ones c.args.mask) c.args.key.now c.told-key c.key_width.ensures.value in
    subst (λ l. HasRoom l c.loop-value.out) (sym e)
    (doing_room c.loop-value.invariant (int_bytes z) _ (values_at ks c.loop-value.value-index c.loop-value-test.true) (subst (λ l. HasRoom l c.args.out.now) (sym all) c.requires))

pub loop-value-preserved : goal.loop-value-preserved
loop-value-preserved c =
    let ks = take c.key_width.result c.args.key.now in
    let z = get_or ks c.loop-value.value-index (pos 0) in
    let f : SFits w32 z = search rules in
    let e : c.to_le_bytes.result ≡ int_bytes z = c.to_le_bytes.ensures ∙ le_four _ ∙ ap int_bytes (to_z-of_z w32 z f) in
    let all : flat_map int_bytes ks ≡ key_bytes (count_ones c.args.mask) c.args.key.now = key_values _ (count_ones c.args.mask) c.args.key.now c.told-key c.key_width.ensures.value in
    doing_more c.loop-value.invariant (int_bytes z) _ (values_at ks c.loop-value.value-index c.loop-value-test.true) (subst (λ l. HasRoom l c.args.out.now) (sym all) c.requires) c.put.new.out (puts_as e c.put.ensures)
