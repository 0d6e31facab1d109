use Rattle.std.proofs.Common.{◌≡◌, ◌∙◌, [], ap, map}
use Rattle.std.specs.Prelude.{string_bytes, Ok}
use Rattle.lustrocov.proofs.Called.{called, if_given, if_lacking, short_call}
use Rattle.lustrocov.proofs.call.call_station.Goals as goal

pub returns-in-Ok-clause-words : goal.returns-in-Ok-clause-words
returns-in-Ok-clause-words g c = if_given c.args.args _ λ args is.
    let given = rw is at c.in-Ok.ensures.words in
    called (ap (λ words. map string_bytes words) (c.as_slice.ensures ∙ given)) c.end.ensures c.station.ensures.ends c.station.ensures.due c.station.ensures.keeps

pub returns-in-Ok-clause-no_text : goal.returns-in-Ok-clause-no_text
returns-in-Ok-clause-no_text g c = if_lacking c.args.args _ λ error is.
    let none : Ok c.in-Ok.words ≡ Ok [] = (rw is at c.in-Ok.ensures.no_text) (λ kind. absurd (cc ((rw is at c.in-Ok.ensures.memory) kind))) in
    let given : c.in-Ok.words ≡ [] = cc none in
    called (ap (λ words. map string_bytes words) (c.as_slice.ensures ∙ given)) c.end.ensures c.station.ensures.ends c.station.ensures.due c.station.ensures.keeps

pub returns-in-Err-clause-words : goal.returns-in-Err-clause-words
returns-in-Err-clause-words g c = if_given c.args.args _ λ args is. short_call _ _ _ c.end-in-Err.ensures

pub returns-in-Err-clause-no_text : goal.returns-in-Err-clause-no_text
returns-in-Err-clause-no_text g c = if_lacking c.args.args _ λ error is. short_call _ _ _ c.end-in-Err.ensures
