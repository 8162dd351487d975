use Rattle.audit_deck.specs.Indexes.{AreListed, EndingAt, GatedBy}
use Rattle.audit_deck.proofs.index.Index.new.Given as goal

abbrev pub invariant-loop-place : goal.invariant-loop-place
invariant-loop-place l = record {
  ends : AreListed (EndingAt l.devices) l.nets l.place l.ending;
  gates : AreListed (GatedBy l.devices) l.nets l.place l.gating;
}
