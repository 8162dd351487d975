-- Nodes that lead to each other.
use Rattle.std.proofs.Common.{ℕ, List, inl, inr, sym, subst}
use Rattle.graph_order.specs.Components.{IsJoined}
use Rattle.graph_order.specs.ComponentSearches.{IsOrLeads}
use Rattle.graph_order.specs.Orders.{LeadsOn, more, step}

module _ {nodes : List (List ℕ)} where
  pub leads_on : {a b c : ℕ} → LeadsOn nodes a b → LeadsOn nodes b c → LeadsOn nodes a c
  leads_on (step n) h = more n h
  leads_on (more n rest) h = more n (leads_on rest h)

  pub or_leads : {a b c : ℕ} → IsOrLeads nodes a b → LeadsOn nodes b c → LeadsOn nodes a c
  or_leads {c = c} (inl is) h = subst (λ x. LeadsOn nodes x c) (sym is) h
  or_leads (inr l) h = leads_on l h

  pub leads_or : {a b c : ℕ} → LeadsOn nodes a b → IsOrLeads nodes b c → LeadsOn nodes a c
  leads_or {a} h (inl is) = subst (LeadsOn nodes a) is h
  leads_or h (inr l) = leads_on h l

  pub or_or : {a b c : ℕ} → IsOrLeads nodes a b → IsOrLeads nodes b c → IsOrLeads nodes a c
  or_or {c = c} (inl is) h = subst (λ x. IsOrLeads nodes x c) (sym is) h
  or_or (inr l) h = inr (leads_or l h)

  pub joined_both : {a b : ℕ} → IsOrLeads nodes a b → IsOrLeads nodes b a → IsJoined nodes a b
  joined_both (inl is) h = inl is
  joined_both (inr l) (inl is) = inl (sym is)
  joined_both (inr l) (inr m) = inr (l, m)

  pub joined_forth : {a b : ℕ} → IsJoined nodes a b → IsOrLeads nodes a b
  joined_forth (inl is) = inl is
  joined_forth (inr h) = inr h.0

  pub joined_back : {a b : ℕ} → IsJoined nodes a b → IsOrLeads nodes b a
  joined_back (inl is) = inl (sym is)
  joined_back (inr h) = inr h.1

  pub joined_through : {a b c : ℕ} → IsJoined nodes a b → IsJoined nodes b c → IsJoined nodes a c
  joined_through h k = joined_both (or_or (joined_forth h) (joined_forth k)) (or_or (joined_back k) (joined_back h))
