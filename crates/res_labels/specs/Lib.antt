pub mod Labelling
