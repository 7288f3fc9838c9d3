-- A bus that is alone is never lost.
use Rattle.std.proofs.Common.{◌≡◌, Bool, true, sym, subst}
use Rattle.bus_view.specs.declared.refusal.Cause.{Cause}
use Rattle.bus_view.specs.declared.refusal.Cause.TheVariants as cause
use Rattle.bus_view.specs.declared.refusal.BatchCause.{BatchCause}
use Rattle.bus_view.specs.declared.refusal.BatchCause.TheVariants as batch
use Rattle.router_core.specs.Answers.{IsLost, refusal_of, refusal_of_batch}

IsMemory : Cause → Type 0
IsMemory cause.NoMemory = Unit {0}
IsMemory cause.ForeignSeat = ⊥
IsMemory cause.HistoryFull = ⊥
IsMemory cause.Gone = ⊥

pub is_lost : (alone : Bool) (why : Cause) → (alone ≡ true → why ≡ cause.NoMemory) → IsLost alone (refusal_of why)
unfolding IsMemory
is_lost alone cause.NoMemory h = tt
is_lost alone cause.ForeignSeat h = λ e. subst IsMemory (sym (h e)) tt
is_lost alone cause.HistoryFull h = λ e. subst IsMemory (sym (h e)) tt
is_lost alone cause.Gone h = λ e. subst IsMemory (sym (h e)) tt

IsMemoryOfAll : BatchCause → Type 0
IsMemoryOfAll (batch.Refused cause.NoMemory) = Unit {0}
IsMemoryOfAll (batch.Refused cause.ForeignSeat) = ⊥
IsMemoryOfAll (batch.Refused cause.HistoryFull) = ⊥
IsMemoryOfAll (batch.Refused cause.Gone) = ⊥
IsMemoryOfAll batch.Batch = ⊥

pub all_lost : (alone : Bool) (why : BatchCause) → (alone ≡ true → why ≡ batch.Refused cause.NoMemory) → IsLost alone (refusal_of_batch why)
unfolding IsMemoryOfAll
all_lost alone (batch.Refused cause.NoMemory) h = tt
all_lost alone (batch.Refused cause.ForeignSeat) h = λ e. subst IsMemoryOfAll (sym (h e)) tt
all_lost alone (batch.Refused cause.HistoryFull) h = λ e. subst IsMemoryOfAll (sym (h e)) tt
all_lost alone (batch.Refused cause.Gone) h = λ e. subst IsMemoryOfAll (sym (h e)) tt
all_lost alone batch.Batch h = λ e. subst IsMemoryOfAll (sym (h e)) tt
