use Rattle.audit_deck.proofs.index.Index.keeps_use.Goals as goal

pub returns-then-not-is_out_port-clause-yes : goal.returns-then-not-is_out_port-clause-yes
returns-then-not-is_out_port-clause-yes c = λ e. record {
  used = c.is_used.ensures.yes c.if-not-is_used.false;
  out_gates_none = λ out. absurd (c.is_out_port.ensures.no c.if-not-is_out_port.true out);
  data_gates_own = c.gates_its_latch.ensures.yes c.if-not-gates_its_latch.false;
}

pub returns-clause-yes : goal.returns-clause-yes
returns-clause-yes c = λ e. record {
  used = c.is_used.ensures.yes c.if-not-is_used.false;
  out_gates_none = λ out. c.gates_none.ensures.yes e;
  data_gates_own = c.gates_its_latch.ensures.yes c.if-not-gates_its_latch.false;
}

pub returns-clause-no : goal.returns-clause-no
returns-clause-no c = λ e k. c.gates_none.ensures.no e (k.out_gates_none (c.is_out_port.ensures.yes c.if-not-is_out_port.false))
