-- What a writer has written.
use Rattle.std.proofs.Common.{◌≡◌, ◌≢◌, ◌++◌, ℕ, List, [], false, refl, sym, ◌∙◌}
use Rattle.std.proofs.Common.{◌<◌, ◌-◌, ◌+◌, ◌*◌, suc-mul, arith}
use Rattle.std.proofs.lemmas.List.{length-drop}
use Rattle.std.specs.Global.{Vec}
use Rattle.std.specs.Io.KnownBytes.{Appends}
use Rattle.csv.specs.Records.{Row, fields_of}
use Rattle.csv.specs.Writing.{default_writer, row_text, writer_setup, fields_written, has_written, text_written}
use Rattle.csv.specs.declared.writer.Writer.{Writer}
use Rattle.csv.specs.declared.writer.QuoteStyle.TheVariants as style
use Rattle.suite_file.specs.Records.{Text}
use Rattle.std.proofs.Common.{ap, map, take, drop, length, suc, ◌∷◌}
use Rattle.op_network.specs.declared.edge.Parts.{Parts}
use Rattle.op_network.specs.declared.value.Value.{Value}
use Rattle.op_network.specs.Run.{rows}
use Rattle.std.specs.List.{flat_map}
use Rattle.op_network.specs.declared.test.Test.{Test}
use Rattle.suite_file.specs.Written.{test_records, text_of, instant_record}
use Rattle.suite_file.specs.Writing.{vec_bytes, written, IsWriting}

necessary : style.Necessary ≢ style.NonNumeric
necessary e = absurd (cc e)

pub row_written : (a b : Writer (Vec ℕ)) (row : Row) → IsWriting a
    → (fields_written a ≡ 0 → has_written a ≡ false → (writer_setup a).style ≢ style.NonNumeric → Appends (text_written vec_bytes a) (text_written vec_bytes b) (row_text (writer_setup a) (fields_of row)))
    → written b ≡ written a ++ row_text default_writer (fields_of row)
row_written a b row h f = rw h.setup at f h.fields h.wrote necessary

pub still_writing : (a b : Writer (Vec ℕ)) → IsWriting a → writer_setup b ≡ writer_setup a → fields_written b ≡ 0 → has_written b ≡ false → IsWriting b
still_writing a b h s f w = record { setup = s ∙ h.setup; fields = f; wrote = w }

append_assoc : (a b c : Text) → (a ++ b) ++ c ≡ a ++ (b ++ c)
append_assoc [] b c = refl
append_assoc (x ∷ a) b c = ap (λ t. x ∷ t) (append_assoc a b c)

-- one more record
pub rows_more : (all front later : Text) (parts : Parts) (name : Text) (n m : ℕ) (values : List Value) → n ≡ suc m
    → all ≡ front ++ text_of (map (instant_record parts name) (rows (length parts.inputs) n values))
    → later ≡ front ++ row_text default_writer (instant_record parts name (take (length parts.inputs) values))
    → all ≡ later ++ text_of (map (instant_record parts name) (rows (length parts.inputs) m (drop (length parts.inputs) values)))
rows_more all front later parts name n m values e h l = h ∙ rw (e, l) (sym (append_assoc front _ _))

text_append : (a b : List (List Text)) → text_of (a ++ b) ≡ text_of a ++ text_of b
text_append [] b = refl
text_append (r ∷ a) b = ap (λ t. row_text default_writer r ++ t) (text_append a b) ∙ sym (append_assoc (row_text default_writer r) (text_of a) (text_of b))

-- one more test
pub tests_more : (all front later : Text) (parts : Parts) (test : Test) (tests : List Test)
    → all ≡ front ++ text_of (flat_map (test_records parts) (test ∷ tests)) → later ≡ front ++ text_of (test_records parts test)
    → all ≡ later ++ text_of (flat_map (test_records parts) tests)
tests_more all front later parts test tests h l =
    h ∙ ap (λ t. front ++ t) (text_append (test_records parts test) (flat_map (test_records parts) tests)) ∙ rw l (sym (append_assoc front (text_of (test_records parts test)) (text_of (flat_map (test_records parts) tests))))

append_none : (a : Text) → a ++ [] ≡ a
append_none [] = refl
append_none (x ∷ a) = ap (λ t. x ∷ t) (append_none a)

pub no_more_tests : (all front : Text) (parts : Parts) → all ≡ front ++ text_of (flat_map (test_records parts) []) → all ≡ front
no_more_tests all front parts h = h ∙ append_none front

times_more : (n i w : ℕ) → i < n → (n - i) * w ≡ (n - (i + 1)) * w + w
times_more n i w below = let e : n - i ≡ suc (n - (i + 1)) = omega arith in rw e (simp suc-mul (omega arith))

pub rest_size : (n i w : ℕ) (rest later : List Value) → i < n → length rest ≡ (n - i) * w → later ≡ drop w rest → length later ≡ (n - (i + 1)) * w
rest_size n i w rest later below size after = omega (arith, times_more n i w below, ap length after, length-drop w rest)
