-- What a read of a connection came to.
use Rattle.std.proofs.Common.{◌≡◌, ◌≤◌, ℕ, Option, Some, None, List, length, take, refl, sym, ap, ◌∙◌, subst}
use Rattle.std.proofs.lemmas.List.{set-get_or}
use Rattle.std.specs.Prelude.{slice_set}
use Rattle.router_host_core.specs.Carrying.{ended_at, line_at, with_line}
use Rattle.router_host_core.specs.Sockets.{Gives, IsPulledIn, IsReadToEnd}
use Rattle.router_host_core.specs.States.{LineState}
use Rattle.router_host_core.specs.declared.ending.EndCause.{EndCause}
use Rattle.router_host_core.specs.declared.line.Pulled.{Pulled}
use Rattle.router_host_core.specs.declared.line.Pulled.TheVariants.{Bytes, Nothing, Over}
use Rattle.router_host.specs.Keeping.{waiting}
use Rattle.router_host.specs.States.{Waiting}
use Rattle.router_host.specs.declared.kept.Kept.{Kept}
use Rattle.router_host.specs.declared.kept.Kept.TheVariants.{Happening, Piece}

-- a read that came to something
abbrev IsSomething : Pulled → Type 0
IsSomething Nothing = ⊥
IsSomething other = Unit {0}

same_line : (lines : List (Option LineState)) (key : ℕ) (l : LineState) → line_at lines key ≡ Some l → with_line lines key l ≡ lines
same_line lines key l is = ap (λ (o : Option LineState). slice_set lines key o) (sym is) ∙ set-get_or lines key None

module _ (lines : List (Option LineState)) (key : ℕ) (room : List ℕ) (after : List (Option LineState)) where
  pub nothing_in : (line : Option LineState) → line_at lines key ≡ line → IsPulledIn lines key line Nothing room after → after ≡ lines
  nothing_in None is pulled = pulled.1
  nothing_in (Some l) is pulled = pulled.2 ∙ ap (with_line lines key) pulled.1 ∙ same_line lines key l is

  pub over_in : (cause : EndCause) (line : Option LineState) → line_at lines key ≡ line → IsPulledIn lines key line (Over cause) room after →
      (l : LineState) × (line_at lines key ≡ Some l) × IsReadToEnd l.left cause × (after ≡ lines)
  over_in cause None is pulled = absurd (subst IsSomething pulled.0 tt)
  over_in cause (Some l) is pulled = (l, is, pulled.1.0, pulled.2 ∙ ap (with_line lines key) pulled.1.1 ∙ same_line lines key l is)

  pub bytes_in : (count : ℕ) (line : Option LineState) → line_at lines key ≡ line → IsPulledIn lines key line (Bytes count) room after →
      (l : LineState) × (line_at lines key ≡ Some l) × ((left : Option (List ℕ)) × (count ≤ length room) × Gives l (take count room) left × (after ≡ with_line lines key (record l { left = left })))
  bytes_in count None is pulled = absurd (subst IsSomething pulled.0 tt)
  bytes_in count (Some l) is pulled = (l, is, (pulled.1.0, pulled.1.1, pulled.1.2, pulled.2 ∙ ap (with_line lines key) pulled.1.3))

-- A connection is over that was read and has not changed.
pub ended_in : (lines pulled ended : List (Option LineState)) (key : ℕ) (cause : EndCause) (l : LineState) → line_at lines key ≡ Some l → pulled ≡ lines →
    ended ≡ ended_at pulled key cause (line_at pulled key) → ended ≡ ended_at lines key cause (Some l)
ended_in lines pulled ended key cause l is same over =
    over ∙ ap (λ (ls : List (Option LineState)). ended_at ls key cause (line_at ls key)) same ∙ ap (ended_at lines key cause) is

-- something waits
abbrev IsThere : {N : Type 0} → Option (Waiting N) → Type 0
IsThere None = ⊥
IsThere (Some w) = Unit {0}

-- Whether nothing waits does not depend on what was read last.
pub still_none : {N : Type 0} (room other : List ℕ) (kept : Option (Kept N)) → waiting room kept ≡ None → waiting other kept ≡ None
still_none room other None is = refl
still_none room other (Some (Happening event)) is = absurd (subst IsThere is tt)
still_none room other (Some (Piece key count)) is = absurd (subst IsThere is tt)
