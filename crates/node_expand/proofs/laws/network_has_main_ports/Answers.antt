use Rattle.std.proofs.Common.{arith}
use Rattle.node_expand.specs.Law.{main_name, program_in}
use Rattle.node_expand.proofs.ValidPorts.{network_has_ports}
use Rattle.node_expand.proofs.laws.network_has_main_ports.Goals as goal

pub returns : goal.returns
returns c shallow = λ main known.
    let typed = c.args.typed.now in
    let facts = c.typed_program.ensures in
    let wide = facts.width.narrowest in
    network_has_ports (program_in typed) (main_name typed) main
    (record {
      words = λ x. c.one_word.ensures.word typed.width x (omega (arith, wide));
      typed = facts.program;
      values = facts.values;
      identifiers = facts.identifiers;
      types = facts.types;
      outputs = facts.outputs;
      choices = facts.choices;
      width = facts.width;
    })
    shallow known
