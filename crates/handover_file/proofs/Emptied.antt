-- What writing hands back: a whole record whose stash holds nothing, at the same reading place; nothing else changed.
-- Assumes nothing.
use Prim.Native.Nat.{ℕ}
use mathlib.Core.Path.{◌≡◌, refl, ap, ◌∙◌}
use mathlib.Core.Bool.{Bool, true, false, ◌&&◌}
use mathlib.Core.List.{List, []}
use lib.Dec.{eqb}
use Rattle.words.specs.Bytes.{zeros}
use Rattle.words.proofs.Tests.{passes, both}
use Rattle.cookiestash.specs.Queue.{queue, cookies}
use Rattle.association.specs.declared.Association.{Association}
use Rattle.association.specs.Record.{idle_valid}
use Rattle.association.specs.Whole.{Whole}
use Rattle.handover_file.specs.Cookies.{empty_at}
use Rattle.handover_file.specs.declared.LoadOut.{LoadOut}
use Rattle.handover_file.specs.File.{file_of, emptied, unsent}
use Rattle.handover_file.specs.Answers.{load_of}
use Rattle.handover_file.proofs.File.{Fit, read_file}
use Rattle.handover_file.proofs.Cookies.{empty_at_whole}

idle_emptied : (nts : Bool) (read held : ℕ) (uid : List ℕ) → idle_valid nts read held uid ≡ true → idle_valid nts read 0 uid ≡ true
unfolding idle_valid
idle_emptied true read held uid e = refl
idle_emptied false read held uid e =
    let r = both (eqb read 0) (eqb held 0 && zeros uid) e in
    let h = both (eqb held 0) (zeros uid) r.1 in
    passes _ r.0 ∙ h.1

-- promise: no6.2, no8.1
pub emptied_whole : (a : Association) → Whole a → Whole (emptied a)
unfolding emptied empty_at
emptied_whole a w =
    record {
      settings = w.settings;
      stash = empty_at_whole a.settings.capacity a.stash.read w.stash.reads w.stash.most;
      counted = w.counted;
      versions = w.versions;
      request = w.request;
      idle = idle_emptied a.settings.nts a.stash.read a.stash.held a.state.request.uid w.idle;
    }

-- its cookies are gone, and nothing else: the reading place, the settings and the state are as they were
-- promise: no6.2
pub emptied_holds : (a : Association) →
    (cookies a.settings.capacity (emptied a).stash ≡ []) × ((emptied a).stash.read ≡ a.stash.read) × ((emptied a).settings ≡ a.settings) ×
    ((emptied a).state ≡ a.state)
unfolding cookies queue emptied empty_at
emptied_holds a = (refl, refl, refl, refl)

-- what is loaded from the file has exactly the cookies that the association had, and what is handed back has none: a cookie has one owner
-- promise: no6.2 (the loaded association has exactly the cookies, the returned one none)
pub cookies_go : (a : Association) → Whole a → Fit a → let cap = a.settings.capacity in
    (cookies cap (load_of (file_of a)).association.stash ≡ cookies cap a.stash) × (cookies cap (emptied a).stash ≡ [])
unfolding unsent
cookies_go a w f = (ap (λ (o : LoadOut). cookies a.settings.capacity o.association.stash) (read_file a w f), (emptied_holds a).0)
