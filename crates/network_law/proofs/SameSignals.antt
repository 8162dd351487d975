-- Whether two signals, or the edges of two latches, are the same.
use Rattle.std.proofs.Common.{◌≡◌, inl, inr, refl, ap}
use Rattle.dom_base.specs.Decided.{Decided}
use Rattle.dom_base.proofs.Decided.{dec_and, dec_map, dec_nat}
use Rattle.blif_ast.specs.declared.instance.Binding.{Binding}
use Rattle.blif_ast.specs.declared.latch.Edge2.{Edge2}
use Rattle.blif_ast.specs.declared.latch.Edge2.TheVariants.{Falling, Rising}
use Rattle.blif_ast.specs.InstanceData.{InstanceData}
use Rattle.model_calls.specs.Signals.{Signal}
use Rattle.network_law.proofs.ListDecisions.{dec_list}

dec_binding : (a b : Binding) → Decided (a ≡ b)
dec_binding a b = dec_map
    (λ both. let formal = both.0 in let actual = both.1 in λ i. record { formal = formal i; actual = actual i })
    (λ e. (ap (λ (x : Binding). x.formal) e, ap (λ (x : Binding). x.actual) e))
    (dec_and (dec_list dec_nat a.formal b.formal) (dec_list dec_nat a.actual b.actual))

instances_same : (a b : InstanceData) → a.unit ≡ b.unit → a.bindings ≡ b.bindings → a.line ≡ b.line → a ≡ b
instances_same a b unit bindings line = λ i. record { unit = unit i; bindings = bindings i; line = line i }

dec_instance : (a b : InstanceData) → Decided (a ≡ b)
dec_instance a b = dec_map
    (λ each. instances_same a b each.0 each.1.0 each.1.1)
    (λ e. (ap (λ (x : InstanceData). x.unit) e, (ap (λ (x : InstanceData). x.bindings) e, ap (λ (x : InstanceData). x.line) e)))
    (dec_and (dec_list dec_nat a.unit b.unit) (dec_and (dec_list dec_binding a.bindings b.bindings) (dec_nat a.line b.line)))

pub dec_signal : (a b : Signal) → Decided (a ≡ b)
dec_signal a b = dec_map
    (λ both. let path = both.0 in let name = both.1 in λ i. record { path = path i; name = name i })
    (λ e. (ap (λ (x : Signal). x.path) e, ap (λ (x : Signal). x.name) e))
    (dec_and (dec_list dec_instance a.path b.path) (dec_list dec_nat a.name b.name))

pub dec_edge : (a b : Edge2) → Decided (a ≡ b)
dec_edge Rising Rising = inl refl
dec_edge Rising Falling = inr (λ e. cc)
dec_edge Falling Rising = inr (λ e. cc)
dec_edge Falling Falling = inl refl
