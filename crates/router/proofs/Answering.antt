-- What a call is answered that asks the bus, or has it changed.
use Rattle.std.proofs.Common.{◌≡◌, ℕ, Bool, List, Option, Some, None, Result, Ok, Err, inl, inr, true, false, refl, sym, subst}
use Rattle.seq_bus_core.specs.Answers.{Answer}
use Rattle.seq_bus_core.specs.Histories.{History}
use Rattle.seq_bus_core.specs.declared.connection.Conn.{Conn}
use Rattle.seq_bus_core.specs.declared.error_kind.ErrorKind.{ErrorKind}
use Rattle.seq_bus_core.specs.declared.error_kind.ErrorKind.TheVariants as error
use Rattle.seq_bus_core.specs.declared.outcome.Outcome.{Outcome}
use Rattle.seq_bus_core.specs.declared.outcome.Reply.{Reply}
use Rattle.seq_bus_core.specs.declared.outcome.Reply.TheVariants as reply
use Rattle.seq_bus_core.specs.declared.query.Query.{Query}
use Rattle.bus_view.specs.declared.answer.Asked.{Asked}
use Rattle.bus_view.specs.declared.answer.Asked.TheVariants.{Body, NameHasNoOwner}
use Rattle.bus_view.specs.declared.answer.AskFault.{AskFault}
use Rattle.message_core.specs.Messages.{Message}
use Rattle.driver.specs.declared.call.Call.{Call}
use Rattle.driver.specs.declared.fault.DriverFault.{DriverFault}
use Rattle.driver.specs.Calls.{Reading, error_of, IsCallOrWants}
use Rattle.bus_view.specs.Views.{bus_seen}
use Rattle.outbox_core.specs.Answers.{IsAnswerTo}
use Rattle.outbox_core.specs.Contents.{Carried}
use Rattle.router_core.specs.declared.fate.PeerFate.{PeerFate}
use Rattle.router_core.specs.declared.fate.PeerFate.TheVariants.{Stays}
use Rattle.router_core.specs.Answers.{Heard, Says, Refuses, error_for, refusal_of_query}
use Rattle.router_core.specs.Deeds.{GatedCall}
use Rattle.router_core.specs.Scripts.{Asking, World, Asks, Passes, Announces, Comes}
use Rattle.router_core.specs.Serving.{Work, staying_after, staying_open, answer_of_reply, answering_with, after_answer, erring, after_change_by, releasing_all, request_of, serving_call, serving_reading, serving_request, telling_change}
use Rattle.router_steps.specs.Hearing.{IsTold}
use Rattle.router_steps.proofs.Sequels.{comes_then}

module _ {N G : Type 0} (told : N → History) (registry_of : N → ℕ) (passes : G → GatedCall → G → Type 0) (alone : Bool) where
  -- after the work the connection stays open
  pub stays : (work : Work) (w v : World N G) → Comes told registry_of passes alone work w tt v → Comes told registry_of passes alone (staying_after work) w Stays v
  stays work w v comes = comes_then told registry_of passes alone (λ done. staying_open) tt v Stays v (refl, refl) work w comes

  module _ (m : Message) (caller : Conn) where
    -- the signals come first, then the answer, then the calls that waited
    pub tells_change : (o : Outcome) (answered_so : Result Carried ErrorKind) (w n k v : World N G) → Announces told registry_of alone o.signals w n → answered_so ≡ answer_of_reply o.reply →
        Comes told registry_of passes alone (answering_with m caller answered_so) n tt k → Comes told registry_of passes alone (releasing_all caller o.tickets) k tt v → Comes told registry_of passes alone (telling_change m caller o) w tt v
    tells_change o answered_so w n k v announces is comes last =
        let first = subst (λ (a : Result Carried ErrorKind). Comes told registry_of passes alone (answering_with m caller a) n tt k) is comes in
        (n, announces, comes_then told registry_of passes alone (λ done. releasing_all caller o.tickets) tt k tt v last (answering_with m caller (answer_of_reply o.reply)) n first)

    pub made_still : (o : Outcome) (told_so : Reply) (w v : World N G) → (told_so ≡ reply.Gone → ⊥) →
        Comes told registry_of passes alone (telling_change m caller o) w tt v → Comes told registry_of passes alone (after_change_by m caller o told_so) w Stays v
    made_still o reply.Gone w v there comes = absurd (there refl)
    made_still o other w v there comes = stays (telling_change m caller o) w v comes

    module _ (query : Query) (r : Result Asked AskFault) (bytes : List ℕ) (w n v : World N G) (asks : (heard : Heard (Option Answer)) × Asks alone query w heard n × IsTold r heard bytes) where
      pub asked_body : r ≡ Ok Body →
          ((a : Answer) → IsAnswerTo query bytes a → Comes told registry_of passes alone (after_answer m caller (Says (Some a))) n tt v) →
          Comes told registry_of passes alone (Asking query (λ heard. staying_after (after_answer m caller heard))) w Stays v
      asked_body is comes =
          let so : IsTold (Ok Body) asks.0 bytes = subst (λ (x : Result Asked AskFault). IsTold x asks.0 bytes) is asks.2 in
          let says : Asks alone query w (Says (Some so.0)) n = subst (λ (h : Heard (Option Answer)). Asks alone query w h n) so.1 asks.1 in
          let carries : IsAnswerTo query bytes so.0 = record { state = (bus_seen n.view).state; told_so = sym says.hears.1; is_body = so.2 } in
          (Says (Some so.0), n, says, stays (after_answer m caller (Says (Some so.0))) n v (comes so.0 carries))

      pub asked_none : (fate : PeerFate) → r ≡ Ok NameHasNoOwner → Comes told registry_of passes alone (staying_after (erring m caller error.NameHasNoOwner)) n fate v →
          Comes told registry_of passes alone (Asking query (λ heard. staying_after (after_answer m caller heard))) w fate v
      asked_none fate is comes =
          let so : IsTold (Ok NameHasNoOwner) asks.0 bytes = subst (λ (x : Result Asked AskFault). IsTold x asks.0 bytes) is asks.2 in
          let says : Asks alone query w (Says None) n = subst (λ (h : Heard (Option Answer)). Asks alone query w h n) so.0 asks.1 in
          (Says None, n, says, comes)

      pub asked_fault : (fate : PeerFate) (why : AskFault) (told_so : ErrorKind) → r ≡ Err why → told_so ≡ error_for (refusal_of_query why) → Comes told registry_of passes alone (staying_after (erring m caller told_so)) n fate v →
          Comes told registry_of passes alone (Asking query (λ heard. staying_after (after_answer m caller heard))) w fate v
      asked_fault fate why told_so is errs comes =
          let so : IsTold (Err why) asks.0 bytes = subst (λ (x : Result Asked AskFault). IsTold x asks.0 bytes) is asks.2 in
          let says : Asks alone query w (Refuses (refusal_of_query why)) n = subst (λ (h : Heard (Option Answer)). Asks alone query w h n) so.0 asks.1 in
          let first : Comes told registry_of passes alone (staying_after (after_answer m caller (Refuses (refusal_of_query why)))) n fate v = subst (λ (e : ErrorKind). Comes told registry_of passes alone (staying_after (erring m caller e)) n fate v) errs comes in
          (Refuses (refusal_of_query why), n, says, first)

    pub reads_call : (reading : Reading Call) (call : Call) (w n v : World N G) (fate : PeerFate) → reading ≡ Ok call → Passes passes call w n →
        Comes told registry_of passes alone (serving_request m caller (request_of caller.number call)) n fate v → Comes told registry_of passes alone (serving_reading m caller reading) w fate v
    reads_call reading call w n v fate is shown comes =
        subst (λ (x : Reading Call). Comes told registry_of passes alone (serving_reading m caller x) w fate v) (sym is) (n, shown, comes)

    pub reads_fault : (reading : Reading Call) (why : DriverFault) (error : ErrorKind) (w v : World N G) (fate : PeerFate) → reading ≡ Err why → error ≡ error_of why →
        Comes told registry_of passes alone (staying_after (erring m caller error)) w fate v → Comes told registry_of passes alone (serving_reading m caller reading) w fate v
    reads_fault reading why error w v fate is errs comes =
        let first = subst (λ (e : ErrorKind). Comes told registry_of passes alone (staying_after (erring m caller e)) w fate v) errs comes in
        subst (λ (x : Reading Call). Comes told registry_of passes alone (serving_reading m caller x) w fate v) (sym is) first

    -- a call as it was read, if there was memory
    pub read_so : (reading : Reading Call) (w v : World N G) (fate : PeerFate) → IsCallOrWants m reading →
        Comes told registry_of passes alone (serving_reading m caller reading) w fate v → Comes told registry_of passes alone (serving_call m caller) w fate v
    read_so reading w v fate (inl is) comes = (true, (reading, is, comes))
    read_so reading w v fate (inr wants) comes =
        (false, subst (λ (r : Reading Call). Comes told registry_of passes alone (serving_reading m caller r) w fate v) wants comes)
