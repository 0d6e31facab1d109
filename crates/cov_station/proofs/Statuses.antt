-- What the ends say at each status.
use Rattle.std.proofs.Common.{◌≡◌, ℕ, List, refl, subst}
use Rattle.std.specs.Prelude.{Ok, Err}
use Rattle.cov_base.specs.Bytes.{Appends, BreaksOff}
use Rattle.cov_base.specs.Files.{OnlyReadsRose}
use Rattle.cov_station.specs.declared.refusal.Refusal.{Refusal}
use Rattle.cov_station.specs.declared.refusal.Refusal.TheVariants as why
use Rattle.cov_station.specs.declared.status.Status.{Status}
use Rattle.cov_station.specs.declared.status.Status.TheVariants.{Done, ReadFault, WriteFault, Memory}
use Rattle.cov_station.specs.Chains.{Chain, Answers}
use Rattle.cov_station.specs.Files.{Counted}
use Rattle.cov_station.specs.Outcomes.{Answer, text, Outside, Ends, ends_whole, ends_broken, ends_short, IsRefusal}
use Rattle.cov_station.specs.Refusals.{status_of, line_of}

-- no refusal is Done, and a refusal of a file that could not be read alone is a read fault
not_done : {A : Type 0} (reason : Refusal) → Done ≡ status_of reason → A
not_done why.Usage e = absurd (cc)
not_done _ e = absurd (cc)

unread : (reason : Refusal) → ReadFault ≡ status_of reason → (name : List ℕ) × (reason ≡ why.CannotRead name)
unread (why.CannotRead name) e = (name, refl)
unread _ e = absurd (cc)

not_broken : {A : Type 0} (reason : Refusal) → WriteFault ≡ status_of reason → A
not_broken why.Usage e = absurd (cc)
not_broken _ e = absurd (cc)

pub done_of : (chain : Chain) (old new : Outside) → Ends chain old new Done
    → (out : List ℕ) × Answers chain (Ok out) × Appends old.written out new.written × (new.counts ≡ old.counts) × (new.faults ≡ old.faults)
done_of chain old new (ends_whole (Ok out) h e some k appended well) = (out, h, appended, k, well)
done_of chain old new (ends_whole (Err reason) h e some k appended well) = not_done reason e
done_of chain old new (ends_broken a h e k broken) = absurd (cc)
done_of chain old new (ends_short e written faults) = absurd (cc)

pub refused_of : (chain : Chain) (old new : Outside) (end : Status) → Ends chain old new end → IsRefusal end
    → (reason : Refusal) × Answers chain (Err reason) × (end ≡ status_of reason) × Appends old.written (line_of reason) new.written
    × Counted {A = List ℕ} (Err reason) old.counts new.counts × (new.faults ≡ old.faults)
refused_of chain old new end (ends_whole (Ok out) h e some k appended well) r = absurd (subst IsRefusal e r)
refused_of chain old new end (ends_whole (Err reason) h e some k appended well) r = (reason, h, e, appended, k, well)
refused_of chain old new end (ends_broken a h e k broken) r = absurd (subst IsRefusal e r)
refused_of chain old new end (ends_short e written faults) r = absurd (subst IsRefusal e r)

named : (chain : Chain) (old new : Outside) (reason : Refusal) (name : List ℕ) → reason ≡ why.CannotRead name → Answers chain (Err reason) → Appends old.written (line_of reason) new.written
    → Counted {A = List ℕ} (Err reason) old.counts new.counts → Answers chain (Err (why.CannotRead name)) × Appends old.written (line_of (why.CannotRead name)) new.written × OnlyReadsRose old.counts new.counts
named chain old new reason name e h appended k =
    (subst (λ reason. Answers chain (Err reason)) e h, subst (λ reason. Appends old.written (line_of reason) new.written) e appended, subst (λ reason. Counted {A = List ℕ} (Err reason) old.counts new.counts) e k)

pub read_fault_of : (chain : Chain) (old new : Outside) → Ends chain old new ReadFault
    → (name : List ℕ) × Answers chain (Err (why.CannotRead name)) × Appends old.written (line_of (why.CannotRead name)) new.written × OnlyReadsRose old.counts new.counts × (new.faults ≡ old.faults)
read_fault_of chain old new (ends_whole (Ok out) h e some k appended well) = absurd (cc)
read_fault_of chain old new (ends_whole (Err reason) h e some k appended well) = let found = unread reason e in let all = named chain old new reason found.0 found.1 h appended k in (found.0, all.0, all.1, all.2, well)
read_fault_of chain old new (ends_broken a h e k broken) = absurd (cc)
read_fault_of chain old new (ends_short e written faults) = absurd (cc)

pub write_fault_of : (chain : Chain) (old new : Outside) → Ends chain old new WriteFault
    → (a : Answer) × Answers chain a × Counted a old.counts new.counts × BreaksOff old.written new.written old.faults new.faults (text a)
write_fault_of chain old new (ends_whole (Ok out) h e some k appended well) = absurd (cc)
write_fault_of chain old new (ends_whole (Err reason) h e some k appended well) = not_broken reason e
write_fault_of chain old new (ends_broken a h e k broken) = (a, h, k, broken)
write_fault_of chain old new (ends_short e written faults) = absurd (cc)

pub memory_of : (chain : Chain) (old new : Outside) → Ends chain old new Memory → (new.written ≡ old.written) × (new.faults ≡ old.faults)
memory_of chain old new (ends_whole a h e some k appended well) = absurd (some refl)
memory_of chain old new (ends_broken a h e k broken) = absurd (cc)
memory_of chain old new (ends_short e written faults) = (written, faults)
