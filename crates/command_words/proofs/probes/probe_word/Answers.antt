use Rattle.std.proofs.Common.{◌≡◌, true, subst, sym, rules}
use Rattle.dom_base.specs.Names.{IsNetName}
use Rattle.command_words.specs.ProbeWords.{is_probe_name}
use Rattle.command_words.proofs.ProbeWords.{probe_name_lower}
use Rattle.command_words.proofs.probes.probe_word.Goals as goal

pub returns-in-None : goal.returns-in-None
returns-in-None c =
    let name = c.name_and_edge-edge.result.0.now in
    let good : is_probe_name name ≡ true = search rules in
    absurd (c.in-None.ensures (subst IsNetName (sym (search rules)) (probe_name_lower name good)))
