-- From what a command answers and what is put to how the call ends.
use Rattle.std.proofs.Common.{◌≡◌, ℕ, List, refl, sym, subst, ap, ◌∙◌, inl, inr}
use Rattle.std.specs.Prelude.{◌⊎◌, Option, Some, None, Ok, Err}
use Rattle.std.specs.Result.{IsErrAnd}
use Rattle.cov_base.specs.Bytes.{Appends, BreaksOff}
use Rattle.cov_base.specs.Files.{Files}
use Rattle.cov_station.specs.declared.refusal.Refusal.{Refusal}
use Rattle.cov_station.specs.declared.refusal.Refusal.TheVariants as why
use Rattle.cov_station.specs.declared.status.Status.{Status}
use Rattle.cov_station.specs.declared.status.Status.TheVariants.{Done, ReadFault, Memory}
use Rattle.cov_station.specs.Chains.{Chain, Answers, IsReady}
use Rattle.cov_station.specs.Files.{Counted}
use Rattle.cov_station.specs.Laws.{IsReadFault, Agree}
use Rattle.cov_station.specs.Outcomes.{Answer, status, text, Outside, Ends, ends_whole, ends_broken, ends_short, IsFault, IsOrFault, IsDue, IsPut, put_whole, put_broken}
use Rattle.cov_station.specs.Refusals.{status_of, line_of}
use Rattle.cov_station.specs.Steps.{Does, Same, gives, refuses, runs_out}
use Rattle.cov_station.proofs.Determined.{AllDetermined, one_answer, ready_apart}

-- the text of an answer was being put
put_ends : {chain : Chain} {due end : Status} {bytes : List ℕ} (old new : Outside) (a : Answer) → Answers chain a → Counted a old.counts new.counts
    → bytes ≡ text a → due ≡ status a → (status a ≡ Memory → ⊥) → IsPut old.written new.written old.faults new.faults bytes due end → Ends chain old new end
put_ends old new a h k same is some (put_whole e appended well) =
    ends_whole a h (e ∙ is) (λ short. some (sym (e ∙ is) ∙ short)) k (subst (λ bytes. Appends old.written bytes new.written) same appended) well
put_ends old new a h k same is some (put_broken e broken) =
    ends_broken a h e k (subst (λ bytes. BreaksOff old.written new.written old.faults new.faults bytes) same broken)

pub done_ends : {chain : Chain} {end : Status} {bytes out : List ℕ} (old new : Outside) → Does (Answers chain) Same (Ok out) → Counted {A = List ℕ} (Ok out) old.counts new.counts
    → bytes ≡ out → IsPut old.written new.written old.faults new.faults bytes Done end → Ends chain old new end
done_ends {chain} old new (gives {a = a} h shown) k same p = put_ends old new (Ok a) h k (same ∙ shown) refl (λ short. absurd (cc)) p

-- only want of memory has the status of it
not_short : (reason : Refusal) → (reason ≡ why.Memory → ⊥) → status_of reason ≡ Memory → ⊥
not_short why.Memory some e = some refl
not_short _ some e = absurd (cc)

pub refused_ends : {chain : Chain} {due end : Status} {bytes : List ℕ} {reason : Refusal} (old new : Outside) → Does (Answers chain) Same (Err reason) → Counted {A = List ℕ} (Err reason) old.counts new.counts
    → (reason ≡ why.Memory → ⊥) → bytes ≡ line_of reason → due ≡ status_of reason → IsPut old.written new.written old.faults new.faults bytes due end → Ends chain old new end
refused_ends old new (refuses {why = reason} h) k some same is p = put_ends old new (Err reason) h k same is (not_short reason some) p
refused_ends old new runs_out k some same is p = absurd (some refl)

fault_status : (reason : Refusal) → IsReadFault reason → status_of reason ≡ ReadFault
fault_status (why.CannotRead name) f = refl
fault_status _ f = absurd f

unread : (a : Answer) → IsErrAnd a IsReadFault → IsFault (status a)
unread (Ok bytes) f = absurd f
unread (Err reason) f = inl (fault_status reason f)

-- the end is that of an answer which agrees with another
agreed : {end : Status} (a b : Answer) → end ≡ status a → Agree a b → IsFault (status b) ⊎ IsOrFault (status b) end
agreed a b e (inl f) = inr (inl (subst IsFault (sym e) (unread a f)))
agreed a b e (inr (inl f)) = inl (unread b f)
agreed a b e (inr (inr same)) = inr (inr (e ∙ ap status same))

due_told : {chain : Chain} {old new : Outside} {end : Status} → AllDetermined chain → Ends chain old new end → (b : Answer) → Answers chain b → IsFault (status b) ⊎ IsOrFault (status b) end
due_told {chain} d (ends_whole a h e some k appended well) b t = agreed a b e (one_answer chain d a b h t)
due_told d (ends_broken a h e k broken) b t = inr (inl (inr (inl e)))
due_told d (ends_short e written faults) b t = inr (inl (inr (inr e)))

ready_told : {chain : Chain} {old new : Outside} {end : Status} → AllDetermined chain → Ends chain old new end → IsReady chain → IsOrFault Done end
ready_told d (ends_whole (Ok bytes) h e some k appended well) r = inr e
ready_told {chain} d (ends_whole (Err reason) h e some k appended well) r = inl (inl (e ∙ fault_status reason (ready_apart chain reason d r h)))
ready_told d (ends_broken a h e k broken) r = inl (inr (inl e))
ready_told d (ends_short e written faults) r = inl (inr (inr e))

pub due_of : (chain : Option Files → Chain) (files : Option Files) {old new : Outside} {end : Status} → ((told : Files) → AllDetermined (chain (Some told))) → Ends (chain files) old new end → IsDue chain files end
due_of chain None d ends = tt
due_of chain (Some told) d ends = (λ b t. due_told (d told) ends b t, λ r. ready_told (d told) ends r)
