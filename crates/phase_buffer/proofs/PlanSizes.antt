-- Plans with chains of buffers are few, and have few devices.
use Rattle.std.specs.Prelude.{◌==◌}
use Rattle.std.proofs.Common.{List, ap, arith, length, map, refl, sym, true, ℕ, ◌*◌, ◌+◌, ◌∙◌, ◌≡◌, ◌≤◌}
use Rattle.std.proofs.lemmas.Bool.{eqb-true}
use Rattle.std.proofs.lemmas.List.{length-map}
use Rattle.sp_network.specs.Tree.{leaves}
use Rattle.sp_network.proofs.TreeImages.{leaves-map_tree}
use Rattle.sp_network.specs.declared.plan.GatePlan.{GatePlan}
use Rattle.clock_phase.specs.Plans.{CellPlan, cell_plan}
use Rattle.phase_buffer.specs.BufferedPlans.{HaveClocksUpTo, new_gate, plan_cells, plan_of_gates}
use Rattle.phase_buffer.specs.Chains.{Cells, taken_at, with_chains}
use Rattle.phase_buffer.specs.Sizes.{BufferedPlansAreFew, BufferedPlansAreSmall, ChainsAreShort, HasFewClocks, plan_devices}
use Rattle.phase_buffer.proofs.ChainSizes.{buffer_count, buffers_most, chain_most, chains_long, devices_with_chains, numbers_few}
use Rattle.phase_buffer.proofs.ChainBounds.{clocks_between}

pub chains_short : ChainsAreShort
chains_short p k c few e = chain_most (plan_cells p) few k c e

pub clocks_few : (leaves phases : ℕ) (plans : List GatePlan) (sinks : List ℕ) → phases ≤ 4 → HaveClocksUpTo phases plans
    → HasFewClocks (plan_cells (plan_of_gates leaves phases plans sinks))
clocks_few leaves phases plans sinks few all = record { few = omega arith; clocks_are = clocks_between phases plans all }

one_number : (x j k : ℕ) → (x == j) ≡ true → (x == k) ≡ true → j ≡ k
one_number x j k e f = sym (eqb-true x j e) ∙ eqb-true x k f

module _ (gates phases : ℕ) (old : List GatePlan) (sinks : List ℕ) (few : phases ≤ 4) (all : HaveClocksUpTo phases old) where
  abbrev deck : Cells CellPlan
  deck = plan_cells (plan_of_gates gates phases old sinks)

  buffers_few : buffer_count deck 0 (map cell_plan old) ≤ 2 * length old + length sinks
  buffers_few =
      let most = buffers_most deck (clocks_few gates phases old sinks few all) in
      let taken = numbers_few (λ k j. j == k) one_number sinks 0 (length (map cell_plan old)) in
      omega (arith, most, taken, length-map old cell_plan)

  devices_few : plan_devices (with_chains deck 0 (map cell_plan old))
      ≤ plan_devices (map cell_plan old) + 6 * (2 * length old + length sinks)
  devices_few =
      let devices = devices_with_chains deck (λ (c : CellPlan). leaves c.tree + 5) (λ at clock. refl)
      (λ (c : CellPlan). ap (λ n. n + 5) (leaves-map_tree (new_gate gates (taken_at deck c.clock)) c.tree)) 0 (map cell_plan old) in
      omega (arith, devices, buffers_few)

pub plans_few : BufferedPlansAreFew
plans_few gates phases old sinks new place ends few all are =
    let same = ap length are.cells_are in
    let long = chains_long (plan_cells (plan_of_gates gates phases old sinks)) 0 (map cell_plan old) in
    omega (arith, same, long, buffers_few gates phases old sinks few all, length-map new cell_plan, length-map old cell_plan)

pub plans_small : BufferedPlansAreSmall
plans_small gates phases old sinks new place ends few all are =
    let same = ap plan_devices are.cells_are in
    omega (arith, same, devices_few gates phases old sinks few all)
