use Rattle.std.proofs.Common.{[]}
use Rattle.message_core.proofs.writing.put_fields_in.Goals as goal

pub returns-clause-put : goal.returns-clause-put
returns-clause-put g c = λ types e valid empty.
    let s0 = c.in_ok-put_path.ensures.put [] empty in
    let s1 = c.in_ok-put_name.ensures.put _ s0 in
    let s2 = c.in_ok-put_name-2.ensures.put _ s1 in
    let s3 = c.in_ok-put_name-3.ensures.put _ s2 in
    let s4 = c.in_ok-put_reply_serial.ensures.put _ s3 in
    let s5 = c.in_ok-put_name-4.ensures.put _ s4 in
    let s6 = c.in_ok-put_name-5.ensures.put _ s5 in
    c.put_signature.ensures.put g.E.Endian.order types _ e valid s6
