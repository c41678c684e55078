use Rattle.typing.proofs.Theorems.{decides_acceptance, sound_acceptance}
use Rattle.checker.proofs.verdict.verdict.Goals as goal

pub returns : goal.returns
returns g c =
    record {
      value = c.fill.ensures.value;
      decides = decides_acceptance g.L.Levels.rules;
      sound = sound_acceptance g.L.Levels.rules g.met.L.Levels.lawful;
    }
