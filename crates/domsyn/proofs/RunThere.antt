-- `run` of a file and a stimulus that are known has an outcome.
use Rattle.std.proofs.Common.{◌≡◌, ◌<◌, ◌≤◌, ◌⊎◌, inl, inr, ℕ, List, length, refl}
use Rattle.dom_base.specs.Answers.{HasOneAnswer}
use Rattle.dom_io.specs.Held.{file_limit}
use Rattle.stim_text.specs.Stimuli.{IsStimFaultAt, IsStimulusOf}
use Rattle.stim_text.proofs.OneAnswer.{one_answer as stim_answer}
use Rattle.command_words.specs.Commands.{Run as run}
use Rattle.network.specs.NetworkData.{NetworkData}
use Rattle.net_run.proofs.OneRun.{one_run}
use Rattle.domsyn.specs.declared.refusal.Refusal.{Refusal}
use Rattle.domsyn.specs.declared.refusal.Refusal.TheVariants.{TooLong, Blif, Flat, TooMany, TooManySinks, Deck, Ports, NoNet, Stim}
use Rattle.domsyn.specs.Laws.{IsKnownFile}
use Rattle.command_answers.specs.Networks.{HasNetwork, run_lines}
use Rattle.command_answers.proofs.OneNetwork.{network_kept}
use Rattle.domsyn.specs.Refusals.{HasNoNetworkFor, IsNotRunFor, about}
use Rattle.domsyn.specs.Outcomes.{Printed, Refused}
use Rattle.domsyn.proofs.KnownFiles.{Pairs, HasOne, fits_or_not}
use Rattle.domsyn.proofs.NetworksThere.{IsNetworkCause, HasNetworkOrCause, network_there}

-- the run of the network of a file over a stimulus, or the cause for which one of them is refused
pub run_there : (known : Pairs) (file stim : List ℕ) → IsKnownFile known file → IsKnownFile known stim → HasOne known (run file stim)
run_there known file stim f s = by (fits_or_not f.bytes file_limit) (fits_or_not s.bytes file_limit)
  where
    none : (short : length f.bytes ≤ file_limit) (few : length s.bytes ≤ file_limit) (name : List ℕ) (why : Refusal) → IsNotRunFor f.bytes s.bytes why → name ≡ about file file stim why → HasOne known (run file stim)
    none short few name why refused name_is = (
      Refused name why,
      inr (record {
        bytes = f.bytes;
        stim_bytes = s.bytes;
        is_file = record { holds = f.holds; within = short };
        is_stim = record { holds = s.holds; within = few };
        refused = refused;
        name_is = name_is;
      }),
    )

    refused : (short : length f.bytes ≤ file_limit) (few : length s.bytes ≤ file_limit) (why : Refusal) → HasNoNetworkFor f.bytes why → IsNetworkCause why → HasOne known (run file stim)
    refused short few TooLong is network = absurd network
    refused short few (Blif line kind) is network = none short few file (Blif line kind) is refl
    refused short few (Flat line kind name) is network = none short few file (Flat line kind name) is refl
    refused short few (TooMany limit count) is network = none short few file (TooMany limit count) is refl
    refused short few (TooManySinks count) is network = absurd network
    refused short few (Deck line kind) is network = absurd network
    refused short few (Ports place) is network = absurd network
    refused short few (NoNet name) is network = absurd network
    refused short few (Stim line kind) is network = absurd network

    over : (short : length f.bytes ≤ file_limit) (few : length s.bytes ≤ file_limit) (n : NetworkData) → HasNetwork f.bytes n
        → HasOneAnswer (IsStimulusOf n.inputs s.bytes) (IsStimFaultAt n.inputs s.bytes) (IsStimFaultAt n.inputs s.bytes) → HasOne known (run file stim)
    over short few n has (inl a) =
        let run = one_run n a.0 (network_kept f.bytes n has) a.1.is_answer.widths_are in (
          Printed 0 (run_lines 0 a.0 run.0),
          record {
            bytes = f.bytes;
            stim_bytes = s.bytes;
            is_file = record { holds = f.holds; within = short };
            is_stim = record { holds = s.holds; within = few };
            run_is = record { network = n; has = has; stream = a.0; stimulus = a.1.is_answer; text_is = record { cycles = run.0; run = run.1.is_run; text_is = refl } };
            done = refl;
          },
        )
    over short few n has (inr r) = none short few stim (Stim r.0 r.1) (record { network = n; has = has; fault = r.2.is_refused }) refl

    made : (short : length f.bytes ≤ file_limit) (few : length s.bytes ≤ file_limit)
        → HasNetworkOrCause f.bytes → HasOne known (run file stim)
    made short few (inl n) = over short few n.0 n.1 (stim_answer n.0.inputs s.bytes)
    made short few (inr r) = refused short few r.0 r.1 r.2

    by : (length f.bytes ≤ file_limit) ⊎ (file_limit < length f.bytes) → (length s.bytes ≤ file_limit) ⊎ (file_limit < length s.bytes) → HasOne known (run file stim)
    by (inl short) (inl few) = made short few (network_there f.bytes short)
    by (inl short) (inr long) =
        (Refused stim TooLong, inl (refl, inr (f.bytes, record { holds = f.holds; within = short }, inl (refl, record { bytes = s.bytes; holds = s.holds; long = long }))))
    by (inr long) any = (Refused file TooLong, inl (refl, inl (refl, record { bytes = f.bytes; holds = f.holds; long = long })))
