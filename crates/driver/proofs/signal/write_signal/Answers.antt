use Rattle.std.proofs.Common.{◌≡◌, ◌≤◌, length, subst, sym, refl, ◌∙◌, Option, List, ℕ, [], ◌∷◌, ◌++◌}
use Rattle.names.specs.BusName.{bus_text}
use Rattle.marshal_core.specs.declared.order.Order.TheVariants.{Little}
use Rattle.marshal_core.specs.Types.{Tys}
use Rattle.marshal_core.specs.Spelling.{max_container_depth, SpellFields, Spells}
use Rattle.marshal_core.specs.Values.{a_string, an_object_path, Vals}
use Rattle.match_rules.specs.declared.kind.MessageKind.TheVariants as kind
use Rattle.match_rules.specs.Kinds.{kind_number}
use Rattle.message_core.specs.declared.header_field.HeaderField.TheVariants as field
use Rattle.message_core.specs.HeaderFields.{Field}
use Rattle.message_core.specs.Headers.{AreWritten, known_field}
use Rattle.driver.specs.OwnMessages.{bus_path, signal_member, signal_destination, signal_message, signal_texts, string_types, string_values}
use Rattle.driver.specs.Layout.{own_bytes, end_fields, spelled_strings, IsNamed}
use Rattle.driver.proofs.Sound.{signal_fields, signal_sound, signal_signed}
use Rattle.driver.proofs.Written.{is_written, writes, strings_spelled}
use Rattle.driver.proofs.signal.write_signal.Goals as goal

pub returns-clause-ok : goal.returns-clause-ok
returns-clause-ok c =
    let signal = c.args.signal.now in
    let types : Tys = string_types (signal_texts signal) in
    let values : Vals = string_values (signal_texts signal) in
    let array : List ℕ = c.deref.result.now in
    let body : List ℕ = c.as_slice.result.now in
    let path : List Field = known_field field.Path (an_object_path bus_path) ∷ [] in
    let interface : List Field = known_field field.Path (an_object_path bus_path) ∷ known_field field.Interface (a_string bus_text) ∷ [] in
    let member : List Field = known_field field.Path (an_object_path bus_path) ∷ known_field field.Interface (a_string bus_text) ∷ known_field field.Member (a_string (signal_member signal)) ∷ [] in
    let first = c.put_string.ensures.put path (c.put_path.ensures.put [] c.in_ok-fields.ensures.items) in
    let second : AreWritten Little member c.put_string-2.new.fields.items =
    subst (λ (t : List ℕ). AreWritten Little (known_field field.Path (an_object_path bus_path) ∷ known_field field.Interface (a_string bus_text) ∷ known_field field.Member (a_string t) ∷ []) c.put_string-2.new.fields.items) c.member_of.ensures
    (c.put_string-2.ensures.put interface first) in
    let ended : AreWritten Little (member ++ end_fields (signal_destination signal) types) c.put_end.new.fields.items =
    subst (λ (to : Option ℕ). AreWritten Little (member ++ end_fields to types) c.put_end.new.fields.items) c.destination_of.ensures (c.put_end.ensures.put types member c.signature_of.ensures (signal_signed signal) second) in
    let written : AreWritten Little (signal_fields signal types) array = subst (AreWritten Little (signal_fields signal types)) (sym c.deref.ensures.value) ended in
    let laid : body ≡ spelled_strings 0 (signal_texts signal) = c.as_slice.ensures.value ∙ c.put_body.ensures.put in
    let spelled : Spells Little 0 types values body =
    (signal_signed signal, subst (SpellFields values max_container_depth Little 0 types) (sym laid) (strings_spelled 0 (signal_texts signal) c.put_body.ensures.strings)) in
    writes c.append_message.result c.args.out.now.items c.append_message.new.out.items body (own_bytes (kind_number kind.Signal) c.args.serial array body) (signal_message c.args.serial signal) c.append_message.ensures.ok c.append_message.ensures.fits
    (λ fits. is_written kind.Signal c.args.serial (signal_fields signal types) types values array body (own_bytes (kind_number kind.Signal) c.args.serial array body)
    (signal_sound c.args.serial signal types (c.requires, c.ranges.serial.fits) (subst IsNamed c.destination_of.ensures c.put_end.ensures.named)) (subst (λ (x : List ℕ). length x ≤ 512) (sym c.deref.ensures.value) c.put_end.ensures.fits) fits written spelled refl)
