-- A connection comes to a host.
use Rattle.std.specs.Prelude.{◌≡◌, ◌<◌, ◌≤◌, ℕ, Bool, true, false, Option, None, is_some, List, [], ◌++◌, length, replicate, count_by}
use Rattle.seq_bus_core.specs.Histories.{History}
use Rattle.seq_bus_core.specs.declared.connection.Conn.{Conn}
use Rattle.bus_view.specs.declared.view.BusView.{Ghosts as BusView}
use Rattle.outbox_core.specs.declared.envelope.Envelope.{Envelope}
use Rattle.router_core.specs.declared.action.Action.{Action}
use Rattle.router_core.specs.declared.event.Event.TheVariants.{Opened}
use Rattle.router_core.specs.declared.gate.Gate.{Ghosts as Gate}
use Rattle.router_core.specs.Acts.{Brings, IsNextKey, State}
use Rattle.router_core.specs.Deeds.{GatedCall}
use Rattle.router_core.specs.Standing.{is_unnamed}
use Rattle.router.specs.OneEvent.{IsServedWell}
use Rattle.router_host_core.specs.declared.post.Post.{Ghosts as Post}
use Rattle.router_host_core.specs.declared.post.StartRequest.{StartRequest}
use Rattle.router_host_core.specs.Carrying.{GoesOn, with_line}
use Rattle.router_host_core.specs.States.{LineState}
use Rattle.router_host.specs.declared.opening.OpenFault.{OpenFault}
use Rattle.router_host.specs.declared.opening.OpenFault.TheVariants.{TooManyUnnamed, NobodyMayLogIn, TooManyStarts, NoMemory}
use Rattle.router_host.specs.declared.opening.TheConstants.{MOST_UNNAMED}
use Rattle.router_host.specs.Doing.{with_lines}
use Rattle.router_host.specs.Happening.{CatchesUp}
use Rattle.router_host.specs.States.{Hosted}

module _ {P N G : Type 0} (puts : P → Conn → Envelope N → P → Type 0)
    (refuses : P → Conn → Type 0) (starts : P → StartRequest → P → Type 0) where
  -- What events before brought goes on, and there may be places for more connections. Nothing else is done.
  pub record MakesRoom (before after : Hosted P G N) : Type 0 where
    pub between : Hosted P G N
    pub catches_up : CatchesUp puts refuses starts before between
    pub places : ℕ
    pub is : after ≡ with_lines between (between.carried.lines ++ replicate places None)

-- Once all that events before brought is carried out and there is a place for it, the connection stands at the key that was next, the
-- engine is told, and the actions that this brings are carried out, up to a start that there is no room for now. Nothing else is done.
pub record Opens {P N G : Type 0} (told : N → History) (registry_of : N → ℕ) (passes : G → GatedCall → G → Type 0)
    (alone : Bool) (puts : P → Conn → Envelope N → P → Type 0)
    (refuses : P → Conn → Type 0) (starts : P → StartRequest → P → Type 0)
    (before : Hosted P G N) (line : LineState) (key : ℕ) (challenge : Option (List ℕ))
    (after : Hosted P G N) : Type 0 where
  pub between : Hosted P G N
  pub makes_room : MakesRoom puts refuses starts before between
  pub none_left : between.undone ≡ []
  pub next : IsNextKey between.engine key
  pub has_place : key < length between.carried.lines
  pub actions : List (Action N)
  pub brings : Brings told registry_of passes alone between.engine (Opened key challenge) actions after.engine
  pub serves : IsServedWell told passes alone between.engine (Opened key challenge) actions after.engine
  pub carried : GoesOn puts refuses starts actions
      (record between.carried { lines = with_line between.carried.lines key line })
      after.undone after.carried
  pub kept : after.kept ≡ between.kept

-- Why a connection that comes with this challenge does not stand there: 64 have no name yet; or it is asked who it is, and nobody may log in; or there
-- is no room for what events before brought, or no memory.
abbrev pub IsOpenFault : {G : Type 0} → State G → Option (List ℕ) → OpenFault → Type 0
IsOpenFault s challenge TooManyUnnamed = MOST_UNNAMED ≤ count_by is_unnamed s.standing.peers
IsOpenFault s challenge NobodyMayLogIn =
    (is_some challenge ≡ true) × (is_some s.standing.login ≡ false)
IsOpenFault s challenge TooManyStarts = Unit {0}
IsOpenFault s challenge NoMemory = Unit {0}

-- the same by a view, a gate and a post
abbrev pub OpensBy : {V N R G P : Type 0} → BusView V N R → Gate G → Post P V N R → Hosted P G N →
    LineState → ℕ → Option (List ℕ) → Hosted P G N → Type 0
OpensBy view gate post before line key challenge after =
    Opens view.told view.registry_of gate.passes view.alone post.puts post.refuses post.starts before line key challenge after
