-- Sources: from the bytes of a file to the network of a program, step by step.
use Rattle.std.specs.Prelude.{ℕ, ◌<◌, ◌≤◌, List, [], length, Option, Result, Ok, Err, slice_get}
use Rattle.std.specs.Option.{option_map_or}
use Rattle.cov_base.specs.Files.{Files}
use Rattle.lus_causality.specs.Causality.{HasNoCycle, IsLeastOnCycle}
use Rattle.lus_syntax.specs.declared.ast.Ast.{Ast}
use Rattle.lus_syntax.specs.declared.tokens.lexer.LexFault.TheVariants as lexing
use Rattle.lus_syntax.specs.declared.limits.TheConstants.{MOST_BYTES, MOST_COUNTED}
use Rattle.lus_syntax.specs.declared.token.Token.{Token}
use Rattle.lus_syntax.specs.Crowding.{IsCrowd}
use Rattle.lus_syntax.specs.Cuts.{Cuts, Fails}
use Rattle.lus_syntax.specs.Faults.{IsFaultPlace}
use Rattle.lus_syntax.specs.Grammar.{Derives}
use Rattle.lus_types.specs.declared.fault.TypeKind.{TypeKind}
use Rattle.lus_types.specs.Names.{Name}
use Rattle.lus_types.specs.Programs.{Node, Program, node_at, program_of}
use Rattle.lus_types.specs.Typing.{IsAccepted, IsFaultOf}
use Rattle.node_expand.specs.declared.limits.TheConstants.{MOST_DEPTH}
use Rattle.node_expand.specs.Nesting.{IsWithinDepth}
use Rattle.node_expand.specs.Network.{network}
use Rattle.op_network.specs.declared.edge.Edge.{Edge}
use Rattle.op_network.specs.declared.edge.EdgeId.{EdgeId}
use Rattle.op_network.specs.declared.edge.Parts.{Parts}
use Rattle.op_network.specs.declared.limits.TheConstants.{MOST_EDGES}
use Rattle.cov_station.specs.declared.refusal.Quantity.TheVariants.{Operators, Calls, Edges}
use Rattle.cov_station.specs.declared.refusal.Refusal.{Refusal}
use Rattle.cov_station.specs.declared.refusal.Refusal.TheVariants.{BadByte, OpenComment, WideLiteral, Syntax, Typing, Cycle, OverLimit}
use Rattle.cov_station.specs.Files.{Reads}
use Rattle.cov_station.specs.Steps.{Step, ◌>>=◌, ◌>>◌}

-- the text is cut into tokens
pub data Lexes (text : List ℕ) : Result (List Token) Refusal → Type 0 where
  lexes : {tokens : List Token} → Cuts text 0 tokens (length text) → Lexes text (Ok tokens)
  has_bad_byte : {at : ℕ} → Fails text (lexing.BadByte at) → Lexes text (Err (BadByte at))
  has_open_comment : {at : ℕ} → Fails text (lexing.OpenComment at) → Lexes text (Err (OpenComment at))
  has_wide_literal : {at : ℕ} → Fails text (lexing.WideLiteral at) → Lexes text (Err (WideLiteral at))

-- at most so many counted tokens stand between two `;`
pub data IsUncrowded (tokens : List Token) : Result (Unit {0}) Refusal → Type 0 where
  is_uncrowded : ((place : ℕ) → IsCrowd tokens place → ⊥) → IsUncrowded tokens (Ok tt)
  is_crowded : (place : ℕ) → IsCrowd tokens place → IsUncrowded tokens (Err (OverLimit Operators MOST_COUNTED))

-- the byte where a token starts, or the text's length where there is no such token
abbrev pub byte_of : List ℕ → List Token → ℕ → ℕ
byte_of text tokens place = option_map_or (λ (t : Token). t.start) (slice_get tokens place) (length text)

-- the tokens derive a tree of the grammar
pub data Parses (text : List ℕ) (tokens : List Token) : Result Ast Refusal → Type 0 where
  parses : {tree : Ast} → Derives text tokens tree → Parses text tokens (Ok tree)
  derives_none : (place : ℕ) → IsFaultPlace text tokens place → Parses text tokens (Err (Syntax (byte_of text tokens place)))

-- a typed program, and the name of its main node
pub record Source : Type 0 where
  pub program : Program
  pub main : Name

-- the program of a tree over words of a width, whose main node is declared at a place
abbrev pub source_of : Ast → ℕ → ℕ → Source
source_of tree width place = record {
  program = program_of tree.decls width;
  main = option_map_or (λ (node : Node). node.name) (node_at tree.decls place) [];
}

-- the tree is well typed, and has a main node
pub data HasTypes (tree : Ast) (width : ℕ) (main : Option Name) : Result Source Refusal → Type 0 where
  has_types : (place : ℕ) → IsAccepted tree width main place → HasTypes tree width main (Ok (source_of tree width place))
  is_badly_typed : {kind : TypeKind} {at : ℕ} → IsFaultOf tree width main kind at → HasTypes tree width main (Err (Typing kind at))

-- the network of the program
abbrev pub net : Source → Parts
net source = network source.program source.main

-- calls are nested within the limit, and the network has at most so many edges
pub data Expands (source : Source) : Result (Unit {0}) Refusal → Type 0 where
  expands : IsWithinDepth source.program source.main → length (net source).edges ≤ MOST_EDGES → Expands source (Ok tt)
  is_too_deep : (IsWithinDepth source.program source.main → ⊥) → Expands source (Err (OverLimit Calls MOST_DEPTH))
  has_many_edges : IsWithinDepth source.program source.main → MOST_EDGES < length (net source).edges
      → Expands source (Err (OverLimit Edges MOST_EDGES))

-- the name of an edge
abbrev pub name_of : List Edge → EdgeId → Name
name_of edges e = option_map_or (λ (edge : Edge). edge.name) (slice_get edges e.0) []

-- no edge of the network depends on itself within an instant
pub data IsCausal (source : Source) : Result Source Refusal → Type 0 where
  is_causal : HasNoCycle (net source).edges → IsCausal source (Ok source)
  has_cycle : (e : EdgeId) → IsLeastOnCycle (net source).edges e → IsCausal source (Err (Cycle (name_of (net source).edges e)))

-- the program of a text
abbrev pub Compiles : List ℕ → ℕ → Option Name → Step Source
Compiles text width main = do
  tokens ← Lexes text
  IsUncrowded tokens
  tree ← Parses text tokens
  source ← HasTypes tree width main
  Expands source
  IsCausal source

-- the program that a file holds
abbrev pub ReadsSource : Option Files → Name → ℕ → Option Name → Step Source
ReadsSource files name width main = do
  text ← Reads files name MOST_BYTES
  Compiles text width main
