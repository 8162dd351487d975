-- The text of the file of one model of a network reads back as a network that does the same.
use Rattle.std.proofs.Common.{◌≡◌, ◌≢◌, inl, inr, ℕ, List, [], ◌∷◌, map, ap, arith, sym, subst}
use Rattle.blif_ast.specs.BlifModelData.{BlifModelData}
use Rattle.blif_ast.specs.Printed.{printed}
use Rattle.blif_ast.specs.Reading.{IsFileOf}
use Rattle.blif_read.specs.ReadsBack.{instance_unlined, latch_unlined, table_unlined}
use Rattle.blif_read.proofs.AcceptedIsGoodModels.{accepted_file}
use Rattle.model_calls.specs.Occurrences.{main_model}
use Rattle.network.specs.NetworkData.{NetworkData}
use Rattle.network.specs.Networks.{IsNetwork}
use Rattle.net_flatten.specs.Flattening.{IsNetworkOf}
use Rattle.net_flatten.specs.OneModel.{file_of}
use Rattle.net_flatten.specs.OneModelParts.{latches_here, tables_here}
use Rattle.net_flatten.proofs.Kept.{network_kept}
use Rattle.net_flatten.proofs.OneModel.{good_one_model}
use Rattle.net_flatten.proofs.OneUnrefused.{unrefused}
use Rattle.net_run.proofs.RunsAlike.{runs_alike, same_start}
use Rattle.network_law.specs.Laws.{HasAnswer}
use Rattle.network_law.proofs.Answered.{has_answer}
use Rattle.command_words.specs.Commands.{Command, Flat}
use Rattle.command_words.proofs.AskedOnce.{asks_one}
use Rattle.trace_tool.specs.CosimRefusals.{HasNetworkOf}
use Rattle.domsyn.specs.FlatTexts.{DoesTheSame, FlatReadsBack, GivesFlatText, IsTextOf}
use Rattle.domsyn.specs.Outcomes.{Files, IsFlat, IsOutcome, Printed}
use Rattle.domsyn.specs.Top.{HasOutcome}
use Rattle.domsyn.proofs.FlatPorts.{same_inputs, same_name, same_outputs}
use Rattle.domsyn.proofs.OtherLines.{model_on_lines, network_on_lines}
use Rattle.domsyn.proofs.PrintedLines.{IsReadBack, none_of, read_back}

module _ (n : NetworkData) (is : IsNetwork n) where
  back : IsReadBack (printed (file_of n)) (main_model (file_of n))
  back = read_back (main_model (file_of n)) (good_one_model n is)

  same_tables : map table_unlined back.model.tables ≡ map table_unlined (tables_here n)
  same_tables = ap (λ (m : BlifModelData). m.tables) back.same

  same_latches : map latch_unlined back.model.latches ≡ map latch_unlined (latches_here n)
  same_latches = ap (λ (m : BlifModelData). m.latches) back.same

  abbrev model : BlifModelData
  model = model_on_lines n is back.model.line back.model.tables back.model.latches same_tables same_latches back.rise

  model_is : back.model ≡ model
  model_is =
      let name = ap (λ (m : BlifModelData). m.name) back.same in
      let inputs = ap (λ (m : BlifModelData). m.inputs) back.same in
      let outputs = ap (λ (m : BlifModelData). m.outputs) back.same in
      let instances = none_of instance_unlined back.model.instances (ap (λ (m : BlifModelData). m.instances) back.same) in
      λ i. record {
        name = name i;
        inputs = inputs i;
        outputs = outputs i;
        tables = back.model.tables;
        latches = back.model.latches;
        instances = instances i;
        line = back.model.line;
      }

  some_network : (k : NetworkData) × IsNetworkOf (file_of n) k
  some_network = by (has_answer (file_of n))
    where
      by : HasAnswer (file_of n) → (k : NetworkData) × IsNetworkOf (file_of n) k
      by (inl r) = absurd (unrefused n is r.0 r.1.has)
      by (inr k) = k

  has_network : HasNetworkOf (printed (file_of n)) some_network.0
  has_network = record {
    file = record { models = model ∷ [] };
    accepted = subst (IsFileOf (printed (file_of n))) (λ i. record { models = model_is i ∷ [] }) back.accepted;
    network_is = network_on_lines n is back.model.line back.model.tables back.model.latches same_tables same_latches back.rise some_network.0 some_network.1;
  }

  does_the_same : DoesTheSame n some_network.0
  does_the_same = record {
    name_is = same_name n is some_network.0 some_network.1;
    inputs_are = same_inputs n is some_network.0 some_network.1;
    outputs_are = same_outputs n is some_network.0 some_network.1;
    starts_are = same_start n some_network.0 is some_network.1;
    runs = λ stream cycles. runs_alike n some_network.0 is some_network.1 stream cycles;
  }

  text_of_network : IsTextOf n (printed (file_of n))
  text_of_network = record { other = some_network.0; has = has_network; same = does_the_same }

pub reads_back : FlatReadsBack
reads_back bytes network has = text_of_network network (network_kept has.file network (accepted_file bytes has.file has.accepted) has.network_is)

-- the clause of `top`: such a text is put out
pub finished_flat : (files : Files) (words : List (List ℕ)) (status : ℕ) (text : List ℕ) → HasOutcome files words (Printed status text)
    → (result : ℕ) (Puts : List ℕ → Type 0) → result ≡ 0 → (result ≢ 4 → Puts text) → GivesFlatText files words Puts
finished_flat files words status text has result Puts zero puts = λ file asks.
    let same = asks_one words has.command (Flat file) has.asks asks in
    let flat : IsFlat files file status text = subst (λ (c : Command). IsOutcome files c (Printed status text)) same has.outcome_is in (
      text,
      record {
        bytes = flat.bytes;
        is_file = flat.is_file;
        network = flat.network;
        has = flat.has;
        is_text = subst (IsTextOf flat.network) (sym flat.text_is) (reads_back flat.bytes flat.network flat.has);
      },
      puts (λ four. omega (arith, zero, four)),
    )
