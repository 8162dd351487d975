use Rattle.std.proofs.Common.{◌∙◌, sym, ap, Ok}
use Rattle.spice_read.proofs.CardForms.{call_names, device_names, opening_names}
use Rattle.spice_read.proofs.subckts.Subckts.push.Goals as goal

pub push_device-requires : goal.push_device-requires
push_device-requires c = device_names c.args.card.now c.in-Ok-Device.kind c.requires.words (sym c.form.ensures ∙ c.in-Ok-Device.is ∙ ap Ok c.in-Ok-Device.field-0-is)

pub push_call-requires : goal.push_call-requires
push_call-requires c = call_names c.args.card.now c.requires.words (sym c.form.ensures ∙ c.in-Ok-Call.is ∙ ap Ok c.in-Ok-Call.field-0-is)

pub open-requires : goal.open-requires
open-requires c = opening_names c.args.card.now c.requires.words (sym c.form.ensures ∙ c.in-Ok-Subckt.is ∙ ap Ok c.in-Ok-Subckt.field-0-is)
