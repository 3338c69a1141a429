-- What the laws of a type of measures give the proofs.
use denote.RattleType.{RattleType}
use mir.Syntax.{Dict}
use seplogic.Ra.Ura.{Ura}
use types.Logic.{Logic}
use prog.Model.{Model}
use contract.Running.{Running}
use Rattle.std.specs.declared.clone.Clone as clone
use Rattle.measures.specs.declared.measure.Measure as measure
use Rattle.measures.specs.contracts.measure.Measure.TheBound.{Met}
use Rattle.hall_file.proofs.Forms.{Lawful}

-- from the laws of the bound `M: Measure`, which an answer has as `g.met.M.Measure`
pub lawful : {W : Type 1} {𝓤 : Ura W} {𝓛 : Logic 𝓤} {𝓜 : Model 𝓤 𝓛.H} {𝓡 : Running 𝓤 𝓛.H 𝓜} {M V A : RattleType} {m : measure.Ghosts M.Denot V.Denot A.Denot} {x : clone.Ghosts M.Denot} {y : clone.Ghosts V.Denot} {z : clone.Ghosts A.Denot} {d e f h : Dict} → Met 𝓛 𝓜 𝓡 𝓡.env M V A m d x e y f z h → Lawful m.meaning m.found
lawful l = record { keeps = l.keeps; formed = l.formed; finds = l.found_by_its_kind; found_by = l.has_the_kind_it_is_found_by }
