-- The places past the fields of the key stay 0.
use Rattle.std.proofs.Common.{◌≡◌, length, take, replicate, pos, ap, ◌∙◌}
use Rattle.std.proofs.lemmas.List.{length-take-le}
use Rattle.readers.specs.Readers.{times}
use Rattle.readers.specs.Seen.{seen}
use Rattle.hall_file.specs.Reading.{int}
use Rattle.hall_file.proofs.Steps.{key_places, no_key}
use Rattle.hall_file.proofs.groups.take_key.Goals as goal

pub returns-in_err-rest : goal.returns-in_err-rest
returns-in_err-rest c =
    let l : length (take c.args.width (replicate 4 (pos 0))) ≡ c.args.width = length-take-le c.args.width (replicate 4 (pos 0)) c.requires in
    ap seen c.from_residual.ensures ∙ no_key c.args.width c.args.bytes.now (c.in_err-rest.ensures ∙ ap (λ n. times n int c.args.bytes.now) l)

pub returns : goal.returns
returns c =
    let l : length (take c.args.width (replicate 4 (pos 0))) ≡ c.args.width = length-take-le c.args.width (replicate 4 (pos 0)) c.requires in
    key_places c.args.width c.args.bytes.now c.fill.new.places c.in_ok-rest.rest.now c.requires (c.fill.auto.places ∙ l) (c.in_ok-rest.ensures ∙ ap (λ n. times n int c.args.bytes.now) l)
