-- Induction over logs, of any machine: what each call keeps holds along any log. Refused calls are calls too.
-- Assumes nothing.
use mathlib.Core.Path.{◌≡◌, refl, sym, ap, ◌∙◌}
use mathlib.Core.List.{List, [], ◌∷◌, ◌++◌, append_assoc, append-nil}
use Prim.Native.Nat.{ℕ}
use native.Mathlib.Omega.{arith}
use Rattle.laws_log.specs.Log.{Rule, Entry, timed, replied}
use Rattle.laws_log.specs.Machine.{Machine, Call, timer, reply, Done, note, made, step, run, after, log_of}
use Rattle.laws.specs.Along.{KeptWith, Kept, Orders, with_reply}

pub no_cons : {A : Type 0} (x : A) (xs : List A) → [] ≡ x ∷ xs → ⊥
no_cons x xs e = let z : ◌≡◌ {A = ℕ} 0 1 = cc in omega arith

module _ {D : Rule} (M : Machine D) where
  -- a property of what was done, with its answers, and of the record
  module _ (P : List (Done M) → M.Record → Type 0) (kept : KeptWith M P) where
    onward : (done : List (Done M)) (a : M.Record) → P done a → (calls : List (Call D)) → P (done ++ run M a calls) (after M a calls)
    onward done a p [] = rw (append-nil done) p
    onward done a p (c ∷ cs) = rw (sym (append_assoc done (made M a c ∷ []) (run M (step M a c) cs)))
        (onward (done ++ made M a c ∷ []) (step M a c) (kept done a c p) cs)

    pub along_with : (a : M.Record) → P [] a → (calls : List (Call D)) → P (run M a calls) (after M a calls)
    along_with a p calls = onward [] a p calls

  -- a property of the record
  pub along : (P : M.Record → Type 0) → Kept M P → (a : M.Record) → P a → (calls : List (Call D)) → P (after M a calls)
  along P kept a p calls = along_with (λ _. P) (λ _. kept) a p calls

  -- a relation between a log's ends
  pub between : (R : M.Record → M.Record → Type 0) → Orders M R → (a : M.Record) (calls : List (Call D)) → R a (after M a calls)
  between R o a calls = along (R a) (λ b c h. o.more h (o.call b c)) a (o.none a) calls

  -- a stretch of a log is the log of some calls, from some record
  pub record Stretch (part : List (Entry D)) : Type 0 where
    pub start : M.Record
    pub calls : List (Call D)
    pub same : part ≡ log_of M start calls

  log_behind : (a : M.Record) (calls : List (Call D)) (before rest : List (Entry D)) → log_of M a calls ≡ before ++ rest → Stretch rest
  log_behind a calls [] rest e = record { start = a; calls = calls; same = sym e }
  log_behind a [] (x ∷ before) rest e = absurd (no_cons x (before ++ rest) e)
  log_behind a (c ∷ cs) (x ∷ before) rest e = log_behind (step M a c) cs before rest (cc)

  log_front : (a : M.Record) (calls : List (Call D)) (part behind : List (Entry D)) → log_of M a calls ≡ part ++ behind → (cs : List (Call D)) ×
      (part ≡ log_of M a cs)
  log_front a calls [] behind e = ([], refl)
  log_front a [] (x ∷ part) behind e = absurd (no_cons x (part ++ behind) e)
  log_front a (c ∷ cs) (x ∷ part) behind e =
      let k = log_front (step M a c) cs part behind (cc) in
      let h : x ≡ note M (made M a c) = cc in
      (c ∷ k.0, λ i. h i ∷ k.1 i)

  pub stretch : (a : M.Record) (calls : List (Call D)) (before part behind : List (Entry D)) → log_of M a calls ≡ before ++ (part ++ behind) → Stretch part
  stretch a calls before part behind e =
      let s = log_behind a calls before (part ++ behind) e in
      let k = log_front s.start s.calls part behind (sym s.same) in
      record { start = s.start; calls = k.0; same = k.1 }

  -- two ways of handling replies that agree on all records with a property have the same logs from each of them, and lead to the same records
  module _ (P : M.Record → Type 0) (kept : Kept M P) (other : M.Record → D.Reply → M.ReplyAnswer × M.Record)
      (agree : (a : M.Record) (r : D.Reply) → P a → other a r ≡ M.reply a r) where
    pub same_logs : (a : M.Record) → P a → (calls : List (Call D)) →
        (after (with_reply M other) a calls ≡ after M a calls) × (log_of (with_reply M other) a calls ≡ log_of M a calls)
    same_logs a p [] = (refl, refl)
    same_logs a p (timer t ∷ cs) =
        let k = same_logs (step M a (timer t)) (kept a (timer t) p) cs in
        (k.0, ap (λ (l : List (Entry D)). timed t (M.timer_number (M.timer a t).0) ∷ l) k.1)
    same_logs a p (reply r ∷ cs) =
        let e = agree a r p in
        let k = same_logs (step M a (reply r)) (kept a (reply r) p) cs in (
          ap (λ x. after (with_reply M other) x.1 cs) e ∙ k.0,
          λ i. replied r (M.reply_number (e i).0) ∷ (ap (λ x. log_of (with_reply M other) x.1 cs) e ∙ k.1) i,
        )
