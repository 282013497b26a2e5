pub mod TokenTable
