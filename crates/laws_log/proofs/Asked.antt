-- `struck` says what RULES says: a reply is kept exactly if it answers the last poll sent, and no 0 stands between.
-- Each log is of one of the three kinds: no poll sent; a measured reply and no poll behind it; a sent poll and neither behind it.
-- Assumes nothing.
use mathlib.Core.Path.{◌≡◌, refl}
use mathlib.Core.Bool.{Bool, true, false, not, ◌&&◌}
use mathlib.Core.List.{List, [], ◌∷◌, ◌++◌}
use Rattle.std.specs.Prelude.{Option, Some, None}
use Prim.Native.Nat.{ℕ}
use lib.Dec.{T, eqb, eqb→eq}
use Rattle.laws_log.specs.Log.{Rule, Entry, timed, replied, sent, measured, NoPoll, next, asked_from, struck}
use Rattle.laws_log.specs.Why.{NoZero}
use Rattle.laws_log.proofs.Strike.{not_T, asked_append, asked_none, behind_struck}

module _ (D : Rule) (s : D.Settings) where
  stays : (q : Option D.Request) (e : Entry D) → T (not (sent e)) → T (not (measured e)) → next D s q e ≡ q
  stays q (timed t n) p z = rw (not_T (eqb n 20) p)
  stays q (replied r n) p z = rw (not_T (eqb n 0) z)

  pub asked_stays : (q : Option D.Request) (es : List (Entry D)) → NoPoll es → NoZero es → asked_from D s q es ≡ q
  asked_stays q [] p z = refl
  asked_stays q (e ∷ es) p z = rw (stays q e p.0 z.0) (asked_stays q es p.1 z.1)

  -- promise: demand.3 (struck as RULES says)
  pub struck_unsent : (before : List (Entry D)) (r : D.Reply) (n : ℕ) → NoPoll before → struck D s before (replied r n) ≡ true
  struck_unsent before r n p = rw (asked_none D s before p)

  -- promise: demand.3
  pub struck_measured : (before since : List (Entry D)) (r r' : D.Reply) (n : ℕ) → NoPoll since →
      struck D s (before ++ replied r 0 ∷ since) (replied r' n) ≡ true
  struck_measured before since r r' n p = behind_struck D s before since r r' n p

  -- promise: demand.3
  pub struck_sent : (before since : List (Entry D)) (t : D.Timer) (r : D.Reply) (n : ℕ) → NoPoll since → NoZero since →
      struck D s (before ++ timed t 20 ∷ since) (replied r n) ≡ not (D.unexpired (D.asks s t) r && D.answers s (D.asks s t) r)
  struck_sent before since t r n p z = rw (asked_append D s None before (timed t 20 ∷ since), asked_stays (Some (D.asks s t)) since p z)

-- The three kinds.
pub data Kind {D : Rule} : List (Entry D) → Type 0 where
  unsent : (log : List (Entry D)) → NoPoll log → NoZero log → Kind log
  spent : (before since : List (Entry D)) (r : D.Reply) → NoPoll since → Kind (before ++ replied r 0 ∷ since)
  open_poll : (before since : List (Entry D)) (t : D.Timer) → NoPoll since → NoZero since → Kind (before ++ timed t 20 ∷ since)

module _ {D : Rule} where
  one_more_lem : (e : Entry D) (log : List (Entry D)) → Kind log → Kind (e ∷ log)
  one_more_lem (timed t n) log (unsent _ p z) = by (eqb n 20) refl
    where
      by : (b : Bool) → eqb n 20 ≡ b → Kind (timed t n ∷ log)
      by true e = rw (eqb→eq n 20 (rw e tt)) (open_poll [] log t p z)
      by false e = unsent (timed t n ∷ log) (rw e tt, p) (tt, z)
  one_more_lem (replied r n) log (unsent _ p z) = by (eqb n 0) refl
    where
      by : (b : Bool) → eqb n 0 ≡ b → Kind (replied r n ∷ log)
      by true e = rw (eqb→eq n 0 (rw e tt)) (spent [] log r p)
      by false e = unsent (replied r n ∷ log) (tt, p) (rw e tt, z)
  one_more_lem e log (spent before since r p) = spent (e ∷ before) since r p
  one_more_lem e log (open_poll before since t p z) = open_poll (e ∷ before) since t p z

  pub kind : (log : List (Entry D)) → Kind log
  kind [] = unsent [] tt tt
  kind (e ∷ es) = one_more_lem e es (kind es)
