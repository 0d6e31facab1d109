-- The lines of scores, one by one.
use Rattle.std.proofs.Common.{◌≡◌, ◌+◌, ◌<◌, ◌∙◌, ℕ, List, ◌++◌, length, take, get_or, sym, ap, arith}
use Rattle.std.specs.List.{flat_map, zip}
use Rattle.std.proofs.lemmas.List.{flat_map_more}
use Rattle.dep_paths.specs.declared.path.Criterion.{Criterion}
use Rattle.dep_paths.specs.declared.path.Score.{Score}
use Rattle.cov_report.specs.Scores.{score_line, scored}
use Rattle.cov_report.proofs.Zips.{zip_more}

abbrev line_of : Criterion × Score → List ℕ
line_of p = score_line p.0 p.1

pub lines_more : (scores : List Score) (i : ℕ) (c : Criterion) (s : Score) (old text new : List ℕ) → i < 4 → length scores ≡ 4 → new ≡ text ++ score_line (get_or scored i c) (get_or scores i s)
    → text ≡ old ++ flat_map line_of (take i (zip scored scores)) → new ≡ old ++ flat_map line_of (take (i + 1) (zip scored scores))
lines_more scores i c s old text new below long added so_far =
    added ∙ ap (λ t. t ++ score_line (get_or scored i c) (get_or scores i s)) so_far
    ∙ flat_map_more line_of old (take i (zip scored scores)) (get_or scored i c, get_or scores i s)
    ∙ ap (λ ps. old ++ flat_map line_of ps) (sym (zip_more scored scores i c s below (omega (arith, below, long))))
