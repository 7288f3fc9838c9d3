-- What the parts of a run do.
use Rattle.std.specs.Prelude.{◌≡◌, ◌⊎◌, ℕ, Bool, List, [], ◌++◌, Option, Result, Ok, Err}
use Rattle.std.specs.Io.KnownBytes.{Appends}
use Rattle.seq_bus_core.specs.Histories.{History}
use Rattle.bus_view.specs.declared.view.BusView.{Ghosts as BusView}
use Rattle.router_core.specs.declared.action.Action.{Action}
use Rattle.router_core.specs.declared.event.Event.{Event}
use Rattle.router_core.specs.declared.gate.Gate.{Ghosts as Gate}
use Rattle.router_core.specs.Acts.{State, Brings}
use Rattle.router_core.specs.Deeds.{GatedCall}
use Rattle.router.specs.OneEvent.{IsServedWell}
use Rattle.busd_core.specs.declared.run_fault.RunFault.{RunFault}
use Rattle.busd_core.specs.declared.run_fault.RunFault.TheVariants as fault
use Rattle.busd_core.specs.Readings.{Reading, IsRead}
use Rattle.busd_core.specs.Happenings.{written_to, Delivery, AreMailed, Happens, Closes, Breaks}

-- Nothing was read; or there was no memory for what was read.
abbrev pub LosesPiece : (holds old new : Option (List ℕ)) (noted notes : Option (List Reading)) → RunFault → Type 0
LosesPiece holds old new noted notes fault.Input = IsRead holds old new noted notes []
LosesPiece holds old new noted notes fault.Memory = (lost : List ℕ) × IsRead holds old new noted notes lost
LosesPiece holds old new noted notes other = ⊥

module _ {N G : Type 0} (told : N → History) (registry_of : N → ℕ) (passes : G → GatedCall → G → Type 0) (alone : Bool) (key : ℕ) where
  -- The event brought these actions, and what they write was written.
  pub record IsBrought (before : State G) (event : Event N) (actions : List (Action N)) (wrote_old wrote_new : Option (List ℕ)) (after : State G) : Type 0 where
    pub brings : Brings told registry_of passes alone before event actions after
    pub serves : IsServedWell told passes alone before event actions after
    pub appends : Appends wrote_old wrote_new (written_to key actions)

  -- There was no memory for the event, and nothing was done; or of what its actions write a front was written.
  abbrev pub IsCutShort : State G → Event N → (wrote_old wrote_new : Option (List ℕ)) → State G → RunFault → Type 0
  IsCutShort before event wrote_old wrote_new after fault.Memory = (after ≡ before) × Appends wrote_old wrote_new []
  IsCutShort before event wrote_old wrote_new after fault.Output =
      (actions : List (Action N)) × (front missing : List ℕ)
      × Brings told registry_of passes alone before event actions after × IsServedWell told passes alone before event actions after
      × (written_to key actions ≡ front ++ missing) × Appends wrote_old wrote_new front
  IsCutShort before event wrote_old wrote_new after other = ⊥

module _ {N G : Type 0} (told : N → History) (passes : G → GatedCall → G → Type 0) (alone : Bool) (seat key : ℕ) where
  -- The first deliveries came as mail, and of what was written then the last bytes are missing.
  abbrev pub AreMailedInPart : State G → List Delivery → (written missing : List ℕ) → State G → Type 0
  AreMailedInPart before deliveries written missing after =
      (come left : List Delivery) × (deliveries ≡ come ++ left) × AreMailed told passes alone seat key before come (written ++ missing) after

  -- All came, or some of them before a fault.
  abbrev pub AreMailedSo : State G → List Delivery → List ℕ → State G → Result (Unit {0}) RunFault → Type 0
  AreMailedSo before deliveries written after (Ok u) = AreMailed told passes alone seat key before deliveries written after
  AreMailedSo before deliveries written after (Err fault.Output) = (missing : List ℕ) × AreMailedInPart before deliveries written missing after
  AreMailedSo before deliveries written after (Err fault.Memory) = AreMailedInPart before deliveries written [] after
  AreMailedSo before deliveries written after (Err other) = ⊥

  abbrev pub Delivers : State G → List Delivery → (wrote_old wrote_new : Option (List ℕ)) → State G → Result (Unit {0}) RunFault → Type 0
  Delivers before deliveries wrote_old wrote_new after result =
      (written : List ℕ) × Appends wrote_old wrote_new written × AreMailedSo before deliveries written after result

  -- What becomes of an event.
  abbrev pub HappensSo : State G → Event N → List ℕ → State G → Result (Unit {0}) RunFault → Type 0
  HappensSo before event written after (Ok u) = Happens told passes alone seat key before event written after
  HappensSo before event written after (Err (fault.Closed cause)) = Closes told passes alone seat key before event cause written after
  HappensSo before event written after (Err fault.Output) = (missing : List ℕ) × Breaks told passes alone seat key before event written missing after
  HappensSo before event written after (Err fault.Memory) = ((after ≡ before) × (written ≡ [])) ⊎ Breaks told passes alone seat key before event written [] after
  HappensSo before event written after (Err fault.Input) = ⊥

  abbrev pub IsCarriedOut : State G → Event N → (wrote_old wrote_new : Option (List ℕ)) → State G → Result (Unit {0}) RunFault → Type 0
  IsCarriedOut before event wrote_old wrote_new after result =
      (written : List ℕ) × Appends wrote_old wrote_new written × HappensSo before event written after result

-- ## The same by a view and a gate

abbrev pub IsBroughtBy : {V N R G : Type 0} → BusView V N R → Gate G → (key : ℕ) → State G → Event N → List (Action N) → (wrote_old wrote_new : Option (List ℕ)) → State G → Type 0
IsBroughtBy view gate key before event actions wrote_old wrote_new after = IsBrought view.told view.registry_of gate.passes view.alone key before event actions wrote_old wrote_new after

abbrev pub IsCutShortBy : {V N R G : Type 0} → BusView V N R → Gate G → (key : ℕ) → State G → Event N → (wrote_old wrote_new : Option (List ℕ)) → State G → RunFault → Type 0
IsCutShortBy view gate key before event wrote_old wrote_new after fault = IsCutShort view.told view.registry_of gate.passes view.alone key before event wrote_old wrote_new after fault

abbrev pub DeliversBy : {V N R G : Type 0} → BusView V N R → Gate G → (seat key : ℕ) → State G → List Delivery → (wrote_old wrote_new : Option (List ℕ)) → State G → Result (Unit {0}) RunFault → Type 0
DeliversBy view gate seat key before deliveries wrote_old wrote_new after result = Delivers view.told gate.passes view.alone seat key before deliveries wrote_old wrote_new after result

abbrev pub IsCarriedOutBy : {V N R G : Type 0} → BusView V N R → Gate G → (seat key : ℕ) → State G → Event N → (wrote_old wrote_new : Option (List ℕ)) → State G → Result (Unit {0}) RunFault → Type 0
IsCarriedOutBy view gate seat key before event wrote_old wrote_new after result = IsCarriedOut view.told gate.passes view.alone seat key before event wrote_old wrote_new after result
